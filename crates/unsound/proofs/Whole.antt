-- A journal whose ring is not sound, until it is created anew.
-- Assumes nothing.
use mathlib.Core.Path.{◌≡◌, refl, sym, ap, ap₂, ◌∙◌, subst}
use mathlib.Core.Logic.{◌⊎◌, inl, inr}
use mathlib.Core.Bool.{Bool, true, false, not, cond, ◌||◌}
use Rattle.std.specs.Prelude.{Option, None, Some}
use mathlib.Core.List.Memᴰ
use mathlib.Core.List.{List, [], ◌∷◌, ◌++◌, append_assoc, Memᴰ}
use Prim.Native.Nat.{ℕ, zero, suc, ◌+◌, ◌-◌, ◌^◌, ◌≤◌, ◌<◌}
use native.Mathlib.Nat.{not-suc-le-zero, le_of_suc-le-suc}
use native.Mathlib.Omega.{arith}
use lib.Dec.{eqb, lit<}
use lib.ListN.{length, take, drop, get_or, replicate, length-append, length-drop}
use lib.Seq.{take_at, drop_at, drop-drop}
use borrow.Author.Tests.{eq-eqb, ne_eqb}
use Rattle.le.specs.Numbers.{le, unle, encode, decode}
use Rattle.le.proofs.Numbers.{length-le, unle-le}
use Rattle.le.proofs.Runs.{begins-append}
use Rattle.status.specs.declared.Status.{Status}
use Rattle.status.specs.declared.Status.TheVariants.{Success, InvalidParameter, InvalidDeviceRequest, FileCorruptError, JournalDeleteInProgress, JournalNotActive}
use Rattle.status.specs.Check.{unless, else}
use Rattle.status.specs.Reply.{guard, answer}
use Rattle.volume.specs.declared.Volume.{Volume}
use Rattle.volume.specs.State.{supported, is_active, is_deleting, active_check}
use Rattle.volume.specs.Calls.{performed, in_state, create_check, created, delete_check, finish_check}
use Rattle.volume.proofs.Marks.{position-facts}
use Rattle.names.specs.Names.{good_name}
use Rattle.usn_record.specs.declared.Version.{Version}
use Rattle.usn_record.specs.Layout.{name_offset, record_length, padding, widths, values, layout, Record, bytes_of, length_of}
use Rattle.usn_record.proofs.Record.{number-range, length_fields, length-layout}
use Rattle.record_reader.specs.Read.{candidate, parse}
use Rattle.record_reader.proofs.Judge.{taken}
use Rattle.record_reader.proofs.RoundTrip.{version-begins, parsed}
use Rattle.records.specs.Records.{Records, whole, bad, record_list, records, joined}
use Rattle.records.proofs.Runs.{record-long, tail-cons}
use Rattle.journal.specs.Kept.{kept_bytes, in_chain, sound, kept}
use Rattle.journal.proofs.Walks.{not-both}
use Rattle.journal.proofs.Boundaries.{marks-facts, sound-facts}
use Rattle.journal_post.specs.declared.Change.{Change}
use Rattle.journal_post.specs.declared.Verdict.{Verdict}
use Rattle.journal_post.specs.declared.Verdict.TheVariants.{Skip, Reject}
use Rattle.journal_post.specs.Post.{skipped, post_check, checked, verdict, verdict_status, leaves, rejection}
use Rattle.journal_post.specs.Posts.{Journal, Posting, after_post}
use Rattle.journal_post.proofs.Keeping.{Keeping, empty-kept, keeping-kept, keeping-sound}
use Rattle.journal_read.specs.Read.{read_check, read_answer, read_reply}
use Rattle.journal_read.proofs.Seeking.{length-kept}
use Rattle.image.specs.Forms.{form_version, known}
use Rattle.image.proofs.Bodies.{same_version}
use Rattle.image_save.specs.Save.{save_check, save_as, save_reply}
use Rattle.image_load.specs.Load.{settled, load_check}
use Rattle.reparse_point.specs.Reparse.{points_check}
use Rattle.reparse_update.specs.declared.Update.{Update}
use Rattle.reparse_update.specs.Update.{Point, given_check, point_posting, update_check, left_by}
use Rattle.history.specs.Calls.{Read, Call, create, post, read, delete, finish, save, load, update, status_of, next, runs}
use Rattle.history.proofs.Effects.{with, emptied, either, does}
use Rattle.history.proofs.Simulate.{active-none}
use Rattle.unsound.specs.Until.{Unsound, Undeleted, renewed, Until}

-- ---- the names in the bytes of records

-- a number that fits its width is read back, whatever stands before and behind it
decoded-at : (ws vs t : List ℕ) (i : ℕ) → i < length ws → i < length vs → get_or vs i 0 < 256 ^ get_or ws i 0 → get_or (decode ws (encode ws vs ++ t)) i 0 ≡ get_or vs i 0
unfolding encode decode
decoded-at [] vs t i h k f = absurd (not-suc-le-zero h)
decoded-at (w ∷ ws) [] t i h k f = absurd (not-suc-le-zero k)
decoded-at (w ∷ ws) (v ∷ vs) t zero h k f =
    ap (λ (l : List ℕ). unle (take w l)) (append_assoc (le w v) (encode ws vs) t) ∙ ap unle (take_at (le w v) (encode ws vs ++ t) w (length-le w v)) ∙ unle-le w v f
decoded-at (w ∷ ws) (v ∷ vs) t (suc i) h k f =
    ap (λ (l : List ℕ). get_or (decode ws (drop w l)) i 0) (append_assoc (le w v) (encode ws vs) t)
    ∙ ap (λ (l : List ℕ). get_or (decode ws l) i 0) (drop_at (le w v) (encode ws vs ++ t) w (length-le w v))
    ∙ decoded-at ws vs t i (le_of_suc-le-suc h) (le_of_suc-le-suc k) f

-- a record that is found where r is laid out has the version and the name of r, as long as the name's length fits its two bytes
module _ (r : Record) (t : List ℕ) (h : length r.name < 65536) where
  abbrev s : List ℕ
  s = bytes_of r ++ t

  size-there : get_or (decode (widths r.version) s) 11 0 ≡ length r.name
  unfolding layout
  size-there =
      let v = r.version in
      let e : List ℕ = encode (widths v) (values v r.fields (length r.name)) in
      ap (λ (l : List ℕ). get_or (decode (widths v) l) 11 0) (append_assoc e _ t)
      ∙ decoded-at (widths v) (values v r.fields (length r.name)) _ 11 (lit< tt) (lit< tt) h

  name-there : take (length r.name) (drop (name_offset r.version) s) ≡ r.name
  unfolding layout
  name-there =
      let v = r.version in
      let e : List ℕ = encode (widths v) (values v r.fields (length r.name)) in
      let o : List ℕ = replicate (padding v (length r.name)) 0 in
      let a : (e ++ (r.name ++ o)) ++ t ≡ e ++ (r.name ++ (o ++ t)) = simp append_assoc in
      ap (λ (l : List ℕ). take (length r.name) (drop (name_offset v) l)) a
      ∙ ap (take (length r.name)) (drop_at e (r.name ++ (o ++ t)) (name_offset v) (length_fields v r.fields (length r.name)))
      ∙ take_at r.name (o ++ t) (length r.name) refl

  module _ (q : Record) (e : parse s ≡ Some q) where
    found-version : q.version ≡ r.version
    found-version =
        same_version q.version r.version
        (sym (version-begins q.version q.fields q.name s (taken q s (parsed s q e).0).begin)
        ∙ version-begins r.version r.fields r.name s (begins-append (bytes_of r) t))

    found_name : q.name ≡ r.name
    found_name =
        sym (ap (λ (k : Record). k.name) (parsed s q e).1)
        ∙ ap (λ (v : Version). (candidate v s).name) found-version
        ∙ ap (λ (n : ℕ). take n (drop (name_offset r.version) s)) size-there
        ∙ name-there

    found-good : good_name r.name ≡ true
    found-good = ap good_name (sym found_name) ∙ (taken q s (parsed s q e).0).name

    found-rest : drop (length_of q) s ≡ t
    found-rest =
        ap₂ (λ (v : Version) (name : List ℕ). drop (record_length v (length name)) s) found-version found_name
        ∙ drop_at (bytes_of r) t (length_of r) (length-layout r.version r.fields r.name)

-- where the walk from x on goes to the end, x has a good name, and the walk behind x does so too
walked-first : (s : List ℕ) → length s ≤ 65536 → (x : Record) (t : List ℕ) (at : ℕ) (ks : List Record) → drop at s ≡ bytes_of x ++ t → records at (drop at s) ≡ whole ks
    → (good_name x.name ≡ true) × (next : ℕ) × (rest : List Record) × (drop next s ≡ t) × (records next (drop next s) ≡ whole rest)
walked-first s h x t at ks e w =
    let l = length-layout x.version x.fields x.name in
    let n : length s - at ≡ length (bytes_of x) + length t = sym (length-drop at s) ∙ ap length e ∙ length-append (bytes_of x) t in
    let c = tail-cons s at ks (omega (arith, l, n, record-long x)) w in
    go (omega (arith, l, n, number-range x.version)) c.0 c.1 c.2 c.3
  where
    go : length x.name < 65536 → (q : Record) (rest : List Record) → parse (drop at s) ≡ Some q → records (at + length_of q) (drop (at + length_of q) s) ≡ whole rest
        → (good_name x.name ≡ true) × (next : ℕ) × (rest : List Record) × (drop next s ≡ t) × (records next (drop next s) ≡ whole rest)
    go k q rest f v =
        let p : parse (bytes_of x ++ t) ≡ Some q = ap parse (sym e) ∙ f in
        (found-good x t k q p, at + length_of q, rest, sym (drop-drop (length_of q) at s) ∙ ap (drop (length_of q)) e ∙ found-rest x t k q p, v)

-- and so have all behind it
walked-names : (s : List ℕ) → length s ≤ 65536 → (rs : List Record) (at : ℕ) (ks : List Record) → drop at s ≡ joined rs → records at (drop at s) ≡ whole ks
    → (r : Record) → Memᴰ r rs → good_name r.name ≡ true
unfolding joined
walked-names s h [] at ks e w r m = absurd (Memᴰ.not-nil m)
walked-names s h (x ∷ xs) at ks e w r m =
    let c = walked-first s h x (joined xs) at ks e w in
    go (Memᴰ.cases_cons m) c.0 (walked-names s h xs c.1 c.2 c.3 c.4 r)
  where
    go : (r ≡ x) ⊎ Memᴰ r xs → good_name x.name ≡ true → (Memᴰ r xs → good_name r.name ≡ true) → good_name r.name ≡ true
    go (inl q) g f = ap (λ (y : Record). good_name y.name) q ∙ g
    go (inr q) g f = f q

whole-list : (p : ℕ) (q : Records) → in_chain p q ≡ true → q ≡ whole (record_list q)
whole-list p (whole rs) e = refl
whole-list p (bad place) e = absurd (not-both e)

sound-names : (v : Volume) (ring : List ℕ) (rs : List Record) (r : Record) → kept_bytes v ring ≡ joined rs → Memᴰ r rs → sound v ring ≡ true → good_name r.name ≡ true
sound-names v ring rs r e m s =
    let k : List ℕ = kept_bytes v ring in
    let f = sound-facts v ring s in
    let c = marks-facts v (length ring) f.0 in
    let l : length k ≤ 65536 = omega (arith, length-kept v ring s, c.3, c.8) in
    walked-names k l rs 0 (record_list (records 0 k)) e (whole-list v.first (records 0 k) f.1) r m

is_false : (b : Bool) → (b ≡ true → ⊥) → b ≡ false
is_false true h = absurd (h refl)
is_false false h = refl

-- ---- checks that refuse

abbrev Refuses : Option Status → Type 0
Refuses o = (x : Status) × (o ≡ Some x)

refuses-unless : (t : Bool) (x : Status) → t ≡ false → Refuses (unless t x)
refuses-unless t x e = (x, ap (λ (b : Bool). unless b x) e)

refuses-left : (a b : Option Status) → Refuses a → Refuses (else a b)
refuses-left a b (x, e) = (x, ap (λ (o : Option Status). else o b) e)

refuses-right : (a b : Option Status) → Refuses b → Refuses (else a b)
refuses-right None b k = k
refuses-right (Some x) b k = (x, refl)

performed-left : (o : Option Status) (v w : Volume) → Refuses o → (performed o v w).volume ≡ v
performed-left o v w (x, e) = ap (λ (k : Option Status). (performed k v w).volume) e

settled-left : (o : Option Status) (r s : List ℕ) → Refuses o → settled o r s ≡ r
settled-left o r s (x, e) = ap (λ (k : Option Status). settled k r s) e

posted-left : {A : Type 0} (t : Bool) (o : Option Status) (x y : A) → Refuses o → leaves (cond t Skip (checked o)) x y ≡ x
posted-left true o x y k = refl
posted-left false o x y (z, e) = ap (λ (k : Option Status). leaves (checked k) x y) e

updated-left : (o : Option Status) (j k : Journal) (p f : Point) → k ≡ j → (left_by o j p k f).journal ≡ j
updated-left None j k p f e = e
updated-left (Some x) j k p f e = refl

updated-rejected : (a b : Option Status) (d : Verdict) (x : Status) (j k : Journal) (p f : Point) → a ≡ None → b ≡ None → d ≡ Reject x
    → (left_by (else a (else b (rejection d))) j p k f).status ≡ x
updated-rejected a b d x j k p f e g h = rw (e, g, h)

-- ---- the calls on a journal whose ring is not sound

module _ (j : Journal) (u : Unsound j) where
  abbrev v : Volume
  v = j.volume

  unidle : Refuses (unless (not (is_active v)) InvalidParameter)
  unidle = refuses-unless (not (is_active v)) InvalidParameter (ap not u.active)

  post-left : (c : Change) (name : List ℕ) {A : Type 0} (x y : A) → leaves (verdict v j.ring c name) x y ≡ x
  unfolding verdict post_check
  post-left c name x y = posted-left (skipped v c) (post_check v j.ring name) x y (refuses-left _ _ (refuses-unless (sound v j.ring) FileCorruptError u.unsound))

  load-refuses : (s : List ℕ) (id : ℕ) → Refuses (load_check v (length j.ring) s id)
  unfolding load_check
  load-refuses s id =
      refuses-right (unless (supported v.journal) InvalidDeviceRequest) _
      (refuses-right (unless (not (is_deleting v)) JournalDeleteInProgress) _ (refuses-left _ _ unidle))

  stay : {w : Volume} {ring : List ℕ} → w ≡ v → ring ≡ j.ring → with w ring ≡ j
  stay e q = ap₂ with e q

  post-same : (p : Posting) → after_post j p ≡ j
  post-same p = stay (post-left p.change p.name _ _) (post-left p.change p.name _ _)

  step : (c : Call) → (c ≡ delete v.id → ⊥) → next j c ≡ j
  step (create id) n = stay (performed-left (create_check v id) v (created v id) (refuses-right (unless (not (is_deleting v)) JournalDeleteInProgress) _ (refuses-left _ _ unidle))) refl
  step (post p) n = post-same p
  step (read a) n = refl
  step (delete id) n =
      stay (performed-left (delete_check v id) v (in_state v 2) (refuses-right (active_check v) _ (refuses-unless (eqb id v.id) InvalidParameter (ne_eqb id v.id (λ e. n (ap delete e)))))) refl
  step finish n = stay (performed-left (finish_check v) v (in_state v 0) (refuses-right (unless (is_active v || is_deleting v) JournalNotActive) _ unidle)) refl
  step (save form room) n = refl
  step (load s id) n =
      stay (performed-left (load_check v (length j.ring) s id) v _ (load-refuses s id)) (settled-left (load_check v (length j.ring) s id) j.ring _ (load-refuses s id))
  step (update k p q input) n = updated-left (update_check k j p q input) j _ p _ (post-same (point_posting q))

  rejected : (p : Posting) → skipped v p.change ≡ false → verdict v j.ring p.change p.name ≡ Reject FileCorruptError
  unfolding verdict post_check
  rejected p e = rw (e, u.unsound) refl

  post-corrupt : (p : Posting) → skipped v p.change ≡ false → status_of j (post p) ≡ FileCorruptError
  post-corrupt p e = ap verdict_status (rejected p e)

  read-corrupt : (a : Read) → read_check v a.input a.room ≡ None → status_of j (read a) ≡ FileCorruptError
  unfolding read_reply
  read-corrupt a e = ap₂ (λ (o : Option Status) (b : Bool). (answer (guard o (guard (unless b FileCorruptError) (read_answer v.first (kept v j.ring) a.input a.room)))).status) e u.unsound

  save-corrupt : (form room : ℕ) → supported v.journal ≡ true → known (form_version form) ≡ true → status_of j (save form room) ≡ FileCorruptError
  unfolding save_reply save_check
  save-corrupt form room e k = ap (λ (b : Bool). (answer (guard (unless b InvalidDeviceRequest) (save_as (form_version form) v j.ring room))).status) e ∙ by (form_version form) k
    where
      by : (o : Option Version) → known o ≡ true → (answer (save_as o v j.ring room)).status ≡ FileCorruptError
      by None k = absurd (not-both k)
      by (Some f) k = rw (active-none v u.active, u.unsound) refl

  update-corrupt : (k : Update) (p : Point) (q : Posting) (input : List ℕ) → supported v.journal ≡ true → points_check v ≡ None
      → given_check k p.file (length p.store) input ≡ None → status_of j (update k p q input) ≡ FileCorruptError
  unfolding update_check
  update-corrupt k p q input e a b =
      updated-rejected (points_check v) (given_check k p.file (length p.store) input) _ FileCorruptError j _ p _ a b (rejected (point_posting q) (rw (e, u.active)))

  delete-done : status_of j (delete v.id) ≡ Success
  delete-done =
      ap₂ (λ (o : Option Status) (b : Bool). (performed (else o (unless b InvalidParameter)) v (in_state v 2)).status) (active-none v u.active)
      (eq-eqb v.id v.id refl)

stays : (j : Journal) → Unsound j → (cs : List Call) → Undeleted j.volume.id cs → runs j cs ≡ j
stays j u [] n = refl
stays j u (c ∷ cs) n = ap (λ (k : Journal). runs k cs) (step j u c n.0) ∙ stays j u cs n.1

-- ---- created anew

module _ (j : Journal) (id : ℕ) where
  abbrev gone : Journal
  gone = runs j (delete j.volume.id ∷ finish ∷ [])

  gone-buffer : length j.ring ≡ j.volume.capacity → length j.ring ≡ gone.volume.capacity
  gone-buffer b =
      let P : Volume → Type 0 = λ x. length j.ring ≡ x.capacity in
      let v : Volume = j.volume in
      let w : Volume = (next j (delete v.id)).volume in
      let q : P w = either (delete_check v v.id) v (in_state v 2) P b b in
      either (finish_check w) w (in_state w 0) P q q

  anew-keeps : status_of gone (create id) ≡ Success → length j.ring ≡ j.volume.capacity → Keeping (renewed j id) []
  anew-keeps e b =
      let o = (does gone (create id)).0 e in
      let f = position-facts gone.volume.last o.position in
      subst (λ (k : Journal). Keeping k []) (sym o.journal)
      (record {
        buffer = gone-buffer b;
        capacity = o.capacity;
        chain = refl;
        eight = f.0;
        low = f.1;
        span = omega arith;
        bytes = empty-kept (emptied gone gone.volume.last id).volume j.ring refl;
      })

pub until : Until
until =
    record {
      names = λ j rs r e m n. is_false (sound j.volume j.ring) (λ s. not-both (sym n ∙ sound-names j.volume j.ring rs r e m s));
      stays = stays;
      post-refused = post-corrupt;
      read-refused = read-corrupt;
      save-refused = save-corrupt;
      update-refused = update-corrupt;
      deleted = delete-done;
      anew = λ j id e b. let k = anew-keeps j id e b in (keeping-sound (renewed j id) [] k, keeping-kept (renewed j id) [] k);
    }
