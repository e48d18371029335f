-- A reader's reads against the history: what it is handed, when it is told that entries are deleted, and how it gets on.
-- Assumes nothing.
use mathlib.Core.Path.{◌≡◌, refl, sym, ap, ap₂, ◌∙◌, subst}
use mathlib.Core.Logic.{◌⊎◌, inl, inr, ◌↔◌}
use mathlib.Core.Bool.{Bool, true, false, not, cond, ◌&&◌, ◌||◌}
use Rattle.std.specs.Prelude.{Option, None, Some}
use mathlib.Core.List.{List, [], ◌∷◌, ◌++◌, map, append_assoc, append-nil}
use Prim.Native.Nat.{ℕ, ◌+◌, ◌-◌, ◌^◌, ◌≤◌, ◌<◌}
use native.Mathlib.Omega.{arith}
use lib.Dec.{ltb, eqb}
use lib.ListN.{length, drop, length-append}
use lib.Seq.{take_at, drop_at}
use borrow.Author.Tests.{ltb-true, ltb-false, eqb-false, lt-ltb, le-ltb, lt-leb, ne_eqb}
use Rattle.le.specs.Numbers.{le, number_at}
use Rattle.le.proofs.Numbers.{unle-le, length-le}
use Rattle.le.proofs.Runs.{and_left, and_right}
use Rattle.status.specs.declared.Status.{Status}
use Rattle.status.specs.declared.Status.TheVariants.{Success, InvalidDeviceRequest, FileCorruptError, JournalDeleteInProgress, JournalNotActive, JournalEntryDeleted}
use Rattle.status.specs.Number.{number}
use Rattle.status.specs.Check.{unless, else, passes}
use Rattle.status.specs.Reply.{Reply, refuse, give, guard, answer}
use Rattle.status.proofs.Checking.{else-none, unless-true, Never}
use Rattle.status.proofs.Numbers.{same-status}
use Rattle.volume.specs.declared.Volume.{Volume}
use Rattle.volume.specs.State.{supported, is_active, is_deleting, active_check, good_capacity}
use Rattle.usn_record.specs.declared.Version.{Version}
use Rattle.usn_record.specs.Layout.{Record, in_version}
use Rattle.records.specs.Records.{joined, records, all_shown}
use Rattle.reply_walker.specs.Reply.{position_of}
use Rattle.journal.specs.Kept.{kept_bytes, in_chain, good_marks, sound, kept}
use Rattle.journal.specs.Boundary.{records_after}
use Rattle.journal_read.specs.Input.{filter_of, version_of, argument_check}
use Rattle.journal_page.specs.Select.{selects}
use Rattle.journal_page.specs.Page.{Page, page_of, empty, page_bytes, page_check, page_reply}
use Rattle.journal_read.specs.Read.{is_deleted, origin, deleted_check, answer_from, read_answer, read_check, read_reply}
use Rattle.journal_post.specs.Posts.{Journal}
use Rattle.history.specs.Calls.{Read, read, reply_to, status_of, next, Typed, AllTyped}
use Rattle.history.specs.Log.{History, posted, note, notes}
use Rattle.history.specs.Reading.{Received, Reader, advanced, told, Turn, mine, other, call_of, hears, follow, Carries, Own, Chosen, Hold}
use Rattle.history.specs.Demand.{filter, between, CreatesNone, NoCreation, DroppedAbove, well_formed}
use Rattle.journal_page.proofs.Giving.{page-stops, given-shown}
use Rattle.journal_post.proofs.Links.{Chain, chain-le, chain-append}
use Rattle.history.proofs.Effects.{clash, usable}
use Rattle.history.proofs.Sim.{Sim, Grow}
use Rattle.history.proofs.Chains.{filter-append, between-append, between-high, between-all, between-top, after-drop, after-boundary, after-append, Boundary, boundary, mem-range, some-above, Split, split, page-alike}
use Rattle.history.proofs.Simulate.{kept-live, sound-live, active-none, sim-step}

pub whole : (j : Journal) (h : History) → Sim j h → Chain h.base (posted h) h.end
whole j h m = chain-append h.base h.dropped h.first h.left h.end m.shape.gone m.shape.here

-- ---- replies

pub hold-append : (ss ts : List Received) (rs more : List Record) → Hold ss rs → Hold ts more → Hold (ss ++ ts) (rs ++ more)
hold-append [] ts rs more k t = subst (λ (x : List Record). Hold ts (x ++ more)) (sym k) t
hold-append (s ∷ ss) ts rs more k t = (
  k.0,
  k.1 ++ more,
  ap (λ (y : List Record). y ++ more) k.2 ∙ append_assoc k.0 k.1 more,
  k.3,
  k.4,
  hold-append ss ts k.1 more k.5 t,
)

-- ---- a reader that stands rightly in the history

pub record Stand (h : History) (d : Reader) : Type 0 where
  pub handed : Hold d.handed (filter (selects d.filter) (between d.start d.position (posted h)))
  pub rises : d.start ≤ d.position
  pub positive : 0 < d.start
  pub rest : List Record
  pub boundary : records_after h.base d.position (posted h) ≡ Some rest

pub stand-boundary : (j : Journal) (h : History) (d : Reader) → Sim j h → (t : Stand h d) → Boundary h.base d.position (posted h) t.rest h.end
stand-boundary j h d m t = boundary h.base d.position (posted h) t.rest h.end (whole j h m) t.boundary

-- it stays so while the history grows
pub stand-grow : (j : Journal) (h k : History) (d : Reader) → Sim j h → Grow h k → Stand h d → Stand k d
stand-grow j h k d m g t =
    record {
      handed = subst (Hold d.handed) (ap (filter (selects d.filter)) (sym same)) t.handed;
      rises = t.rises;
      positive = t.positive;
      rest = t.rest ++ g.more;
      boundary =
          ap₂ (λ (x : ℕ) (y : List Record). records_after x d.position y) g.base g.parts
          ∙ after-append h.base d.position (posted h) t.rest g.more h.end (whole j h m) t.boundary;
    }
  where
    same : between d.start d.position (posted k) ≡ between d.start d.position (posted h)
    same =
        ap (between d.start d.position) g.parts
        ∙ between-append d.start d.position (posted h) g.more
        ∙ ap (λ (x : List Record). between d.start d.position (posted h) ++ x)
        (between-high d.start d.position h.end g.more k.end g.chain (chain-le d.position t.rest h.end (stand-boundary j h d m t).beyond))
        ∙ append-nil (between d.start d.position (posted h))

-- ---- the checks of a read

guard-inv : (o : Option Status) (k : Reply) (x : Status) (bytes : List ℕ) → guard o k ≡ give x bytes → (o ≡ None) × (k ≡ give x bytes)
guard-inv None k x bytes h = (refl, h)
guard-inv (Some y) k x bytes h = clash cc

none_is : (o : Option Status) → passes o ≡ true → o ≡ None
none_is None h = refl
none_is (Some x) h = clash cc

pub formed : (h : History) (a : Read) → well_formed h a ≡ true → (h.live ≡ true) × (argument_check h.id a.input a.room ≡ None)
unfolding well_formed
formed h a w = (and_left h.live _ w, none_is (argument_check h.id a.input a.room) (and_right h.live _ w))

sound-buffer : (v : Volume) (ring : List ℕ) → sound v ring ≡ true → eqb (length ring) v.capacity ≡ true
unfolding sound good_marks
sound-buffer v ring h =
    and_left (eqb (length ring) v.capacity) _
    (and_right (good_capacity v.capacity) _ (and_left (good_marks v (length ring)) (in_chain v.first (records 0 (kept_bytes v ring))) h))

check-none : (v : Volume) (input : List ℕ) (room : ℕ) → supported v.journal ≡ true → is_active v ≡ true → argument_check v.id input room ≡ None
    → read_check v input room ≡ None
check-none v input room s a c =
    ap₂ (λ (b : Bool) (o : Option Status). else (unless b InvalidDeviceRequest) (else o (argument_check v.id input room))) s (active-none v a) ∙ c

-- what a reply tells: the checks passed
module _ (v : Volume) (ring input : List ℕ) (room : ℕ) (x : Status) (bytes : List ℕ) where
  passed : read_reply v ring input room ≡ give x bytes
      → (supported v.journal && (is_active v && eqb (length ring) v.capacity) ≡ true) × (argument_check v.id input room ≡ None)
  unfolding read_reply
  passed k =
      let k₁ = guard-inv (read_check v input room) (guard (unless (sound v ring) FileCorruptError) (read_answer v.first (kept v ring) input room)) x bytes k in
      let k₂ = guard-inv (unless (sound v ring) FileCorruptError) (read_answer v.first (kept v ring) input room) x bytes k₁.1 in
      let c₁ = else-none (unless (supported v.journal) InvalidDeviceRequest) (else (active_check v) (argument_check v.id input room)) k₁.0 in
      let c₂ = else-none (active_check v) (argument_check v.id input room) c₁.1 in
      let c₃ = else-none (unless (not (is_deleting v)) JournalDeleteInProgress) (unless (is_active v) JournalNotActive) c₂.0 in (
        ap₂ (λ (p q : Bool). p && (q && eqb (length ring) v.capacity)) (unless-true (supported v.journal) InvalidDeviceRequest c₁.0)
            (unless-true (is_active v) JournalNotActive c₃.1)
            ∙ sound-buffer v ring (unless-true (sound v ring) FileCorruptError k₂.0),
        c₂.1,
      )

-- a reply comes only from a live journal, to a read whose arguments pass
replied-live : (j : Journal) (h : History) (a : Read) (x : Status) (bytes : List ℕ) → Sim j h → reply_to j a ≡ give x bytes
    → (h.live ≡ true) × (argument_check h.id a.input a.room ≡ None)
replied-live j h a x bytes m k = by h.live refl (passed j.volume j.ring a.input a.room x bytes k)
  where
    by : (b : Bool) → h.live ≡ b → (usable j ≡ true) × (argument_check j.volume.id a.input a.room ≡ None)
        → (h.live ≡ true) × (argument_check h.id a.input a.room ≡ None)
    by true e c = (e, ap (λ (i : ℕ). argument_check i a.input a.room) (sym (m.live e).id) ∙ c.1)
    by false e c = let u : true ≡ false = sym c.0 ∙ m.dead e in clash cc

-- a read whose arguments pass, while the journal is live, is answered from the records left
pub reply-live : (j : Journal) (h : History) → Sim j h → h.live ≡ true → (a : Read) → argument_check h.id a.input a.room ≡ None
    → reply_to j a ≡ read_answer h.first h.left a.input a.room
unfolding read_reply
reply-live j h m v a ok =
    let l = m.live v in
    ap
    (λ (o : Option Status). guard o
    (guard (unless (sound j.volume j.ring) FileCorruptError) (read_answer j.volume.first (kept j.volume j.ring) a.input a.room)))
    (check-none j.volume a.input a.room l.supported l.active (ap (λ (i : ℕ). argument_check i a.input a.room) l.id ∙ ok))
    ∙ ap₂ (λ (x : Bool) (rs : List Record). guard (unless x FileCorruptError) (read_answer j.volume.first rs a.input a.room))
    (sound-live j h m l) (kept-live j h m l)
    ∙ ap (λ (f : ℕ). read_answer f h.left a.input a.room) l.first

-- a read of the reader's own, with arguments that pass, while the journal is live
module _ (j : Journal) (h : History) (m : Sim j h) (d : Reader) (t : Stand h d) (a : Read) (c : Carries d a) (v : h.live ≡ true)
    (ok : argument_check h.id a.input a.room ≡ None) where
  abbrev p : ℕ
  p = d.position

  base-low : h.base ≤ p
  base-low = chain-le h.base (stand-boundary j h d m t).before p (stand-boundary j h d m t).upto

  p-end : p ≤ h.end
  p-end = chain-le p t.rest h.end (stand-boundary j h d m t).beyond

  not-zero : eqb p 0 ≡ false
  not-zero = ne_eqb p 0 (λ q. omega (arith, t.positive, t.rises))

  deleted-is : is_deleted p h.first ≡ ltb p h.first
  unfolding is_deleted
  deleted-is =
      ap₂ (λ (x y : Bool). not x && (y || ltb p h.first)) not-zero (lt-leb (2 ^ 63) p (omega (arith, p-end, m.shape.low)))

  origin-is : origin p h.first ≡ p
  unfolding origin
  origin-is = ap (λ (x : Bool). cond x h.first p) not-zero

  -- the reply by a test for deleted entries, a first position and an origin
  abbrev by-marks : Bool → ℕ → ℕ → Reply
  by-marks x f o =
      guard (unless (not x) JournalEntryDeleted) (answer_from (version_of a.input) (filter_of a.input) (a.room - 8) o (records_after f o h.left))

  answered : reply_to j a ≡ by-marks (ltb p h.first) h.first p
  unfolding read_answer deleted_check
  answered =
      reply-live j h m v a ok
      ∙ ap (λ (s : ℕ). by-marks (is_deleted s h.first) h.first (origin s h.first)) c.0
      ∙ ap₂ (λ (x : Bool) (o : ℕ). by-marks x h.first o) deleted-is origin-is

  told-deleted : p < h.first → reply_to j a ≡ refuse JournalEntryDeleted
  told-deleted k = answered ∙ ap (λ (x : Bool). by-marks x h.first p) (lt-ltb p h.first k)

  pub told-reply : h.first ≤ p → reply_to j a ≡ page_reply (version_of a.input) (page_of (version_of a.input) d.filter (a.room - 8) p t.rest)
  told-reply k =
      answered
      ∙ ap (λ (x : Bool). by-marks x h.first p) (le-ltb p h.first k)
      ∙ ap (answer_from (version_of a.input) (filter_of a.input) (a.room - 8) p)
      (sym (after-drop h.base h.dropped h.first p h.left m.shape.gone k) ∙ t.boundary)
      ∙ ap (page_reply (version_of a.input)) (page-alike (version_of a.input) (filter_of a.input) d.filter c.1 (a.room - 8) p t.rest)

-- ---- the clause on deleted entries

-- a page's reply never says that entries are deleted
page-told : (v : Version) (page : Page) → Never JournalEntryDeleted page.stop → (answer (page_reply v page)).status ≡ JournalEntryDeleted → ⊥
unfolding page_reply
page-told v page n h = go (empty page.given) page.stop n (ap number h)
  where
    bytes : List ℕ
    bytes = le 8 page.position ++ page_bytes v page

    go : (b : Bool) (k : Option Status) → Never JournalEntryDeleted k → number (answer (guard (cond b k None) (give Success bytes))).status ≡ 0xC00002CF → ⊥
    go true None n e = omega arith
    go true (Some x) n e = eqb-false (number x) 0xC00002CF n.other e
    go false k n e = omega arith

pub deleted-iff : (j : Journal) (h : History) (d : Reader) → Sim j h → Stand h d → (a : Read) → Carries d a → well_formed h a ≡ true
    → (status_of j (read a) ≡ JournalEntryDeleted) ↔ DroppedAbove h d.position
deleted-iff j h d m t a c w = (there, back)
  where
    g : (h.live ≡ true) × (argument_check h.id a.input a.room ≡ None)
    g = formed h a w

    there : status_of j (read a) ≡ JournalEntryDeleted → DroppedAbove h d.position
    there k = by (ltb d.position h.first) refl
      where
        by : (x : Bool) → ltb d.position h.first ≡ x → DroppedAbove h d.position
        by true q =
            let s = some-above h.base h.dropped h.first d.position m.shape.gone (base-low j h m d t a c g.0 g.1) (ltb-true _ _ q) in
            (s.0, s.1, omega (arith, s.2))
        by false q = absurd (page-told _ _ (page-stops refl refl _ _ _ _ _) (ap (λ (r : Reply). (answer r).status) (sym (told-reply j h m d t a c g.0 g.1 (ltb-false _ _ q))) ∙ k))

    back : DroppedAbove h d.position → status_of j (read a) ≡ JournalEntryDeleted
    back r =
        ap (λ (r : Reply). (answer r).status)
        (told-deleted j h m d t a c g.0 g.1 (omega (arith, (mem-range h.base h.dropped h.first r.0 m.shape.gone r.1).1, r.2)))

-- ---- a reply

record Full (w : Version) (c : Page) (x : Status) (bytes : List ℕ) : Type 0 where
  success : x ≡ Success
  laid : bytes ≡ le 8 c.position ++ joined (map (in_version w) c.given)
  full : page_check c ≡ None

reply-inv : (w : Version) (c : Page) (x : Status) (bytes : List ℕ) → page_reply w c ≡ give x bytes → Full w c x bytes
unfolding page_reply
reply-inv w c x bytes h = go (page_check c) refl h
  where
    go : (k : Option Status) → page_check c ≡ k → guard k (give Success (le 8 c.position ++ page_bytes w c)) ≡ give x bytes → Full w c x bytes
    go (Some y) e h = clash cc
    go None e h = record { success = cc; laid = cc; full = e }

-- a page that stopped and was not refused gives a record
not-empty : (b : Bool) (x : Status) → cond b (Some x) None ≡ None → b ≡ false
not-empty true x e = clash cc
not-empty false x e = refl

-- a position and bytes behind it are read back
position-back : (n : ℕ) (s : List ℕ) → n < 2 ^ 64 → position_of (le 8 n ++ s) ≡ n
unfolding number_at
position-back n s h = rw (take_at (le 8 n) s 8 (length-le 8 n)) (unle-le 8 n h)

-- how a reader gets on by a reply that gives so many records
pub record Advance (h : History) (d : Reader) (t : Stand h d) (a : Read) (bytes : List ℕ) : Type 0 where
  pub next : Stand h (advanced a bytes d)
  pub count : ℕ
  pub sum : length (filter (selects d.filter) t.rest) ≡ count + length (filter (selects d.filter) next.rest)
  pub rises : d.position ≤ position_of bytes
  pub ends : (position_of bytes ≡ h.end) ⊎ ((1 ≤ count) × (1 ≤ length (filter (selects d.filter) next.rest)))

some-given : (l : List Record) → empty l ≡ false → 1 ≤ length l
some-given [] k = clash cc
some-given (x ∷ l) k = omega arith

module _ (j : Journal) (h : History) (m : Sim j h) (d : Reader) (t : Stand h d) (a : Read) (room : ℕ) (x : Status) (bytes : List ℕ) where
  abbrev w : Version
  w = version_of a.input

  abbrev c : Page
  c = page_of w d.filter room d.position t.rest

  abbrev q : ℕ
  q = position_of bytes

  abbrev sel : List Record → List Record
  sel rs = filter (selects d.filter) rs

  abbrev β : ℕ → List Record → List Record
  β b rs = between d.start b rs

  module _ (k : page_reply w c ≡ give x bytes) where
    r : Full w c x bytes
    r = reply-inv w c x bytes k

    e : Boundary h.base d.position (posted h) t.rest h.end
    e = stand-boundary j h d m t

    sp : Split d.filter d.position t.rest h.end c
    sp = split w d.filter room d.position t.rest h.end e.beyond

    at : c.position ≡ q
    at =
        sym
        (ap position_of r.laid
        ∙ position-back c.position (page_bytes w c) (omega (arith, chain-le c.position sp.remain h.end sp.beyond, m.shape.low)))

    behind : drop 8 bytes ≡ joined (map (in_version w) (sel sp.taken))
    behind =
        ap (drop 8) r.laid
        ∙ drop_at (le 8 c.position) (page_bytes w c) 8 (length-le 8 c.position)
        ∙ ap (λ (rs : List Record). joined (map (in_version w) rs)) sp.given

    shown : all_shown w (sel sp.taken) ≡ true
    shown = ap (all_shown w) (sym sp.given) ∙ given-shown w d.filter room d.position t.rest

    upto : Chain d.position sp.taken q
    upto = subst (λ (n : ℕ). Chain d.position sp.taken n) at sp.upto

    beyond : Chain q sp.remain h.end
    beyond = subst (λ (n : ℕ). Chain n sp.remain h.end) at sp.beyond

    p-q : d.position ≤ q
    p-q = chain-le d.position sp.taken q upto

    old : β d.position (posted h) ≡ β d.position e.before
    old =
        ap (β d.position) e.parts
        ∙ between-append d.start d.position e.before t.rest
        ∙ ap (λ (y : List Record). β d.position e.before ++ y) (between-high d.start d.position d.position t.rest h.end e.beyond (omega arith))
        ∙ append-nil (β d.position e.before)

    now : β q (posted h) ≡ β d.position e.before ++ sp.taken
    now =
        ap (β q) e.parts
        ∙ between-append d.start q e.before t.rest
        ∙ ap₂ (λ (y z : List Record). y ++ z) (between-top d.start q h.base e.before d.position e.upto d.position p-q (omega arith))
        (ap (β q) sp.parts
        ∙ between-append d.start q sp.taken sp.remain
        ∙ ap₂ (λ (y z : List Record). y ++ z) (between-all d.start q d.position sp.taken q upto t.rises (omega arith))
        (between-high d.start q q sp.remain h.end beyond (omega arith))
        ∙ append-nil sp.taken)

    grown : sel (β d.position (posted h)) ++ sel sp.taken ≡ sel (β q (posted h))
    grown =
        ap (λ (y : List Record). sel y ++ sel sp.taken) old
        ∙ sym (filter-append (selects d.filter) (β d.position e.before) sp.taken)
        ∙ ap sel (sym now)

    step-handed : Hold (advanced a bytes d).handed (sel (β q (posted h)))
    step-handed =
        subst (Hold (advanced a bytes d).handed) grown
        (hold-append d.handed (record { version = w; bytes = bytes } ∷ []) (sel (β d.position (posted h))) (sel sp.taken) t.handed
        (sel sp.taken, [], sym (append-nil (sel sp.taken)), shown, behind, refl))

    step-boundary : records_after h.base q (posted h) ≡ Some sp.remain
    step-boundary =
        ap (records_after h.base q) (e.parts ∙ ap (λ (y : List Record). e.before ++ y) sp.parts ∙ sym (append_assoc e.before sp.taken sp.remain))
        ∙ after-boundary h.base q (e.before ++ sp.taken) sp.remain (chain-append h.base e.before d.position sp.taken q e.upto upto)

    sums : length (sel t.rest) ≡ length c.given + length (sel sp.remain)
    sums =
        ap (λ (y : List Record). length (sel y)) sp.parts
        ∙ ap length (filter-append (selects d.filter) sp.taken sp.remain)
        ∙ length-append (sel sp.taken) (sel sp.remain)
        ∙ ap (λ (y : List Record). length y + length (sel sp.remain)) (sym sp.given)

    ending : (k : Option Status) → c.stop ≡ k → (q ≡ h.end) ⊎ ((1 ≤ length c.given) × (1 ≤ length (sel sp.remain)))
    ending None u = inl (sym at ∙ sp.whole u)
    ending (Some x) u =
        inr (some-given c.given (not-empty (empty c.given) x (ap (λ (k : Option Status). cond (empty c.given) k None) (sym u) ∙ r.full)), sp.waiting x u)

    advance : Advance h d t a bytes
    advance =
        record {
          next = record { handed = step-handed; rises = omega (arith, p-q, t.rises); positive = t.positive; rest = sp.remain; boundary = step-boundary };
          count = length c.given;
          sum = sums;
          rises = p-q;
          ends = ending c.stop refl;
        }

-- a reply to one of the reader's own reads: only SUCCESS gives anything
pub own-reply : (j : Journal) (h : History) → Sim j h → (d : Reader) (t : Stand h d) (a : Read) → Carries d a
    → (x : Status) (bytes : List ℕ) → reply_to j a ≡ give x bytes
    → (x ≡ Success) × Advance h d t a bytes
own-reply j h m d t a c x bytes k = by (ltb d.position h.first) refl
  where
    lv : (h.live ≡ true) × (argument_check h.id a.input a.room ≡ None)
    lv = replied-live j h a x bytes m k

    by : (b : Bool) → ltb d.position h.first ≡ b → (x ≡ Success) × Advance h d t a bytes
    by true e = let z : refuse JournalEntryDeleted ≡ give x bytes = sym (told-deleted j h m d t a c lv.0 lv.1 (ltb-true _ _ e)) ∙ k in clash cc
    by false e =
        let z : page_reply (version_of a.input) (page_of (version_of a.input) d.filter (a.room - 8) d.position t.rest) ≡ give x bytes
        = sym (told-reply j h m d t a c lv.0 lv.1 (ltb-false _ _ e)) ∙ k in
        ((reply-inv _ _ x bytes z).success, advance j h m d t a (a.room - 8) x bytes z)

-- only SUCCESS has the number 0
pub refusal : (a : Read) (d : Reader) (r : Reply) → ((answer r).status ≡ Success → ⊥) → told a r d ≡ d
refusal a d (refuse x) n = refl
refusal a d (give x bytes) n =
    let z : number x ≡ 0 → ⊥ = λ e. n (same-status x Success e) in
    ap (λ (b : Bool). cond b (advanced a bytes d) d) (ne_eqb (number x) 0 z)

-- one call of the list
pub stand-step : (j : Journal) (h : History) (d : Reader) → Sim j h → Stand h d → (u : Turn) → Typed (call_of u) → CreatesNone j (call_of u) → Own d u
    → Stand (note h (call_of u)) (hears j d u)
stand-step j h d m t (mine a) y n o = by (reply_to j a) refl
  where
    by : (r : Reply) → reply_to j a ≡ r → Stand h (told a r d)
    by (refuse x) e = t
    by (give x bytes) e =
        let k = own-reply j h m d t a o x bytes e in
        subst (λ (s : Status). Stand h (told a (give s bytes) d)) (sym k.0) k.1.next
stand-step j h d m t (other k) y n o = stand-grow j h (note h k) d m (sim-step j h m k y n).1 t

pub stand-run : (us : List Turn) (j : Journal) (h : History) (d : Reader) → Sim j h → Stand h d
    → AllTyped (map call_of us) → NoCreation j (map call_of us) → Chosen j d us
    → Stand (notes h (map call_of us)) (follow j d us)
stand-run [] j h d m t y n o = t
stand-run (u ∷ us) j h d m t y n o =
    stand-run us (next j (call_of u)) (note h (call_of u)) (hears j d u) (sim-step j h m (call_of u) y.0 n.0).0
    (stand-step j h d m t u y.0 n.0 o.0) y.1 n.1 o.1
