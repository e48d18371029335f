-- What every reader is promised: progress, and the whole promise over every list of calls.
-- Assumes nothing.
use mathlib.Core.Path.{◌≡◌, refl, sym, ap, ap₂, ◌∙◌, subst}
use mathlib.Core.Logic.{◌⊎◌, inl, inr}
use mathlib.Core.Bool.{Bool, true, false, ◌&&◌}
use Rattle.std.specs.Prelude.{Option, None, Some}
use mathlib.Core.List.{List, [], ◌∷◌, ◌++◌, map, append_assoc, append-nil, append_cancel_left}
use Prim.Native.Nat.{ℕ, ◌+◌, ◌-◌, ◌≤◌}
use native.Mathlib.Omega.{arith}
use lib.Dec.{leb, ltb}
use lib.ListN.{length}
use borrow.Author.Tests.{ltb-true, ltb-false, leb-true, lt-leb}
use Rattle.le.specs.Numbers.{le}
use Rattle.le.proofs.Runs.{and_left, and_right}
use Rattle.status.specs.declared.Status.{Status}
use Rattle.status.specs.declared.Status.TheVariants.{Success}
use Rattle.status.specs.Reply.{Reply, refuse, give, guard}
use Rattle.usn_record.specs.declared.Version.{Version}
use Rattle.usn_record.specs.Layout.{Record}
use Rattle.records.specs.Records.{all_shown}
use Rattle.reply_walker.specs.Reply.{position_of}
use Rattle.journal.specs.Boundary.{records_after}
use Rattle.journal_page.specs.declared.Filter.{Filter}
use Rattle.journal_read.specs.Input.{version_of}
use Rattle.journal_page.specs.Select.{selects}
use Rattle.journal_page.specs.Page.{Page, page_of, page_bytes, page_check, page_reply}
use Rattle.journal_post.specs.Posts.{Journal}
use Rattle.history.specs.Calls.{Read, Call, reply_to, next, runs, AllTyped}
use Rattle.history.specs.Log.{History, posted, note, notes}
use Rattle.history.specs.Reading.{Reader, fresh, advanced, told, Turn, mine, other, call_of, follow, Carries, Chosen}
use Rattle.history.specs.Demand.{filter, between, above, Rising, Startable, DroppedAbove, NoCreation, well_formed, awaited, one, counts, ample, ReaderPromise, Demand3}
use Rattle.journal_post.proofs.Links.{Chain, chain-le, link-rises}
use Rattle.history.proofs.Effects.{clash}
use Rattle.history.proofs.Sim.{Sim, Grow}
use Rattle.history.proofs.Chains.{filter-chain, filter_none, above_low, above-all, above-append, after-here, after-mem, some-above, first-given}
use Rattle.history.proofs.Simulate.{sim-step, opening-sim, nil-parts, sim-run, grow-run}
use Rattle.history.proofs.Readers.{whole, Stand, stand-boundary, stand-grow, formed, told-reply, deleted-iff, Advance, own-reply, refusal, stand-step, stand-run}

-- ---- progress

-- how many selected records are above the reader's position
abbrev need : History → Reader → ℕ
need h d = length (awaited h d)

awaited-rest : (j : Journal) (h : History) (d : Reader) → Sim j h → (t : Stand h d) → awaited h d ≡ filter (selects d.filter) t.rest
awaited-rest j h d m t = ap (filter (selects d.filter)) same
  where
    same : above d.position (posted h) ≡ t.rest
    same =
        let e = stand-boundary j h d m t in
        ap (above d.position) e.parts
        ∙ above-append d.position e.before t.rest
        ∙ ap₂ (λ (x y : List Record). x ++ y) (above_low d.position h.base e.before d.position e.upto (omega arith))
        (above-all d.position d.position t.rest h.end e.beyond (omega arith))

need-rest : (j : Journal) (h : History) (d : Reader) → Sim j h → (t : Stand h d) → need h d ≡ length (filter (selects d.filter) t.rest)
need-rest j h d m t = ap length (awaited-rest j h d m t)

reply-full : (v : Version) (c : Page) → page_check c ≡ None → page_reply v c ≡ give Success (le 8 c.position ++ page_bytes v c)
unfolding page_reply
reply-full v c h = ap (λ (k : Option Status). guard k (give Success (le 8 c.position ++ page_bytes v c))) h

-- room for the position and the longest record
enough : (n room : ℕ) → leb n room ≡ true → 600 ≤ n → 592 ≤ room - 8
enough n room h k = omega (arith, leb-true n room h)

-- a read that counts is answered, where nothing above its position was dropped
answered : (j : Journal) (h : History) (d : Reader) → Sim j h → Stand h d → h.first ≤ d.position
    → (a : Read) → Carries d a → counts h d (mine a) ≡ true
    → (bytes : List ℕ) × (reply_to j a ≡ give Success bytes)
answered j h d m t low a k w =
    let v = version_of a.input in
    let g = formed h a (and_left (well_formed h a) _ w) in
    let x = and_right (well_formed h a) _ w in
    let page = page_of v d.filter (a.room - 8) d.position t.rest in
    let shown : all_shown v (filter (selects d.filter) t.rest) ≡ true = sym (ap (all_shown v) (awaited-rest j h d m t)) ∙ and_right (leb _ a.room) _ x in (
      _,
      told-reply j h m d t a k g.0 g.1 low ∙ reply-full v page
          (first-given v d.filter (a.room - 8) d.position t.rest h.end (stand-boundary j h d m t).beyond
          (enough _ a.room (and_left (leb _ a.room) _ x) (omega arith)) shown),
    )

-- the reader is at the end, or has reads enough before it
abbrev Soon : History → Reader → ℕ → Type 0
Soon h d k = (d.position ≡ h.end) ⊎ ((1 ≤ k) × (need h d ≤ k))

one-le : (x : Bool) → one x ≤ 1
one-le true = omega arith
one-le false = omega arith

module _ (j : Journal) (h : History) (d : Reader) (m : Sim j h) (t : Stand h d) (low : h.first ≤ d.position) where
  soon-reply : (a : Read) (bytes : List ℕ) (x : Bool) (k : ℕ) → Advance h d t a bytes → Soon h d (one x + k) → Soon h (advanced a bytes d) k
  soon-reply a bytes x k v s = go v.ends s
    where
      go : (position_of bytes ≡ h.end) ⊎ ((1 ≤ v.count) × (1 ≤ length (filter (selects d.filter) v.next.rest))) → Soon h d (one x + k) → Soon h (advanced a bytes d) k
      go (inl e) s = inl e
      go (inr e) (inl s) =
          inl (omega (arith, v.rises, chain-le (position_of bytes) v.next.rest h.end (stand-boundary j h (advanced a bytes d) m v.next).beyond))
      go (inr e) (inr s) =
          let n₀ : need h d ≡ length (filter (selects d.filter) t.rest) = need-rest j h d m t in
          let n₁ : need h (advanced a bytes d) ≡ length (filter (selects d.filter) v.next.rest) = need-rest j h (advanced a bytes d) m v.next in
          inr (omega (arith, v.sum, one-le x, e.0, e.1, s.0, s.1), omega (arith, v.sum, one-le x, e.0, e.1, s.0, s.1))

  -- one of the reader's own reads
  soon-mine : (a : Read) → Carries d a → (k : ℕ) → Soon h d (one (counts h d (mine a)) + k)
      → (h.first ≤ (told a (reply_to j a) d).position) × Soon h (told a (reply_to j a) d) k
  soon-mine a c k s = go (reply_to j a) refl (counts h d (mine a)) refl s
    where
      same : (x : Bool) → (x ≡ true → ⊥) → Soon h d (one x + k) → Soon h d k
      same true n s = absurd (n refl)
      same false n (inl s) = inl s
      same false n (inr s) = inr (omega arith, omega arith)

      go : (r : Reply) → reply_to j a ≡ r → (x : Bool) → counts h d (mine a) ≡ x → Soon h d (one x + k) → (h.first ≤ (told a r d).position) × Soon h (told a r d) k
      go (refuse i) e x q s = (low, same x (λ z. let w = answered j h d m t low a c (q ∙ z) in let z : refuse i ≡ give Success w.0 = sym e ∙ w.1 in clash cc) s)
      go (give i bytes) e x q s =
          let o = own-reply j h m d t a c i bytes e in
          let z : h.first ≤ position_of bytes = omega (arith, o.1.rises, low) in
          subst (λ (y : Status). (h.first ≤ (told a (give y bytes) d).position) × Soon h (told a (give y bytes) d) k) (sym o.0) (z, soon-reply a bytes x k o.1 s)

  -- a call of anybody that posts nothing
  module _ (k : History) (g : Grow h k) (n : g.more ≡ []) where
    same-posted : posted k ≡ posted h
    same-posted = g.parts ∙ ap (λ (x : List Record). posted h ++ x) n ∙ append-nil (posted h)

    same_end : k.end ≡ h.end
    same_end = sym (subst (λ (x : List Record). Chain h.end x k.end) n g.chain)

    soon-other : (i : ℕ) → Soon h d (one false + i) → Soon k d i
    soon-other i (inl s) = inl (s ∙ sym same_end)
    soon-other i (inr s) =
        let w : need k d ≡ need h d = ap (λ (x : List Record). length (filter (selects d.filter) (above d.position x))) same-posted in
        inr (omega arith, omega arith)

progress : (us : List Turn) (j : Journal) (h : History) (d : Reader) → Sim j h → Stand h d → h.first ≤ d.position
    → AllTyped (map call_of us) → NoCreation j (map call_of us) → Chosen j d us
    → posted (notes h (map call_of us)) ≡ posted h → Soon h d (ample j h d us) → (follow j d us).position ≡ h.end
progress [] j h d m t low y n c quiet (inl s) = s
progress [] j h d m t low y n c quiet (inr s) = absurd (omega arith)
progress (mine a ∷ us) j h d m t low y n c quiet soon =
    let s = soon-mine j h d m t low a c.0 (ample j h (told a (reply_to j a) d) us) soon in
    progress us j h (told a (reply_to j a) d) m (stand-step j h d m t (mine a) y.0 n.0 c.0) s.0 y.1 n.1 c.1 quiet s.1
progress (other k ∷ us) j h d m t low y n c quiet soon =
    let s = sim-step j h m k y.0 n.0 in
    let rest = grow-run (map call_of us) (next j k) (note h k) s.0 y.1 n.1 in
    let calm : s.1.more ≡ [] =
    (nil-parts s.1.more rest.more
    (append_cancel_left (posted h) (s.1.more ++ rest.more) []
    (sym (append_assoc (posted h) s.1.more rest.more)
    ∙ ap (λ (x : List Record). x ++ rest.more) (sym s.1.parts)
    ∙ sym rest.parts
    ∙ quiet
    ∙ sym (append-nil (posted h))))
    ).0 in
    progress us (next j k) (note h k) d s.0 (stand-grow j h (note h k) d m s.1 t) (omega (arith, s.1.calm calm, low)) y.1 n.1 c.1
    (quiet ∙ sym (same-posted j h d m t low (note h k) s.1 calm))
    (soon-other j h d m t low (note h k) s.1 calm (ample (next j k) (note h k) d us) soon)
    ∙ same_end j h d m t low (note h k) s.1 calm

-- ---- the start

between-same : (a p : ℕ) (l : List Record) (e : ℕ) → Chain p l e → between a a l ≡ []
unfolding between
between-same a p l e h = filter-chain _ (λ (r : Record). false) p l e h (λ r lo hi. go r (ltb a r.fields.usn) refl) ∙ filter_none l
  where
    go : (r : Record) (x : Bool) → ltb a r.fields.usn ≡ x → x && leb r.fields.usn a ≡ false
    go r true q = lt-leb r.fields.usn a (ltb-true a r.fields.usn q)
    go r false q = refl

stand-fresh : (j : Journal) (h : History) → Sim j h → (start : ℕ) (f : Filter) → (start ≡ 0 → ⊥) → Startable h start → Stand h (fresh start f)
stand-fresh j h m start f pos at =
    let g = place at in
    record {
      handed = ap (filter (selects f)) (between-same start h.base (posted h) h.end (whole j h m));
      rises = omega arith;
      positive = omega arith;
      rest = g.0;
      boundary = g.1;
    }
  where
    place : Startable h start → (t : List Record) × (records_after h.base start (posted h) ≡ Some t)
    place (inl e) = (posted h, after-here h.base start (posted h) (sym e))
    place (inr r) =
        let g = after-mem h.base (posted h) h.end r.0 (whole j h m) r.1 in
        (g.0, ap (λ (x : ℕ). records_after h.base x (posted h)) (sym r.2) ∙ g.1)

not-dropped : (j : Journal) (h : History) (d : Reader) → Sim j h → Stand h d → (DroppedAbove h d.position → ⊥) → h.first ≤ d.position
not-dropped j h d m t n = go (ltb d.position h.first) refl
  where
    go : (x : Bool) → ltb d.position h.first ≡ x → h.first ≤ d.position
    go false q = ltb-false d.position h.first q
    go true q =
        let e = stand-boundary j h d m t in
        absurd
        (n (some-above h.base h.dropped h.first d.position m.shape.gone (chain-le h.base e.before d.position e.upto) (ltb-true d.position h.first q)))

rising : (p : ℕ) (l : List Record) (e : ℕ) → Chain p l e → Rising p l
rising p [] e h = tt
rising p (r ∷ l) e h = (link-rises p r h.0, rising r.fields.usn l e h.1)

-- the promise holds wherever journal and history go together and the reader stands rightly
pub promise : (j : Journal) (h : History) (d : Reader) → Sim j h → Stand h d → ReaderPromise j h d
promise j h d m t =
    record {
      handed = t.handed;
      rising = rising h.base (posted h) h.end (whole j h m);
      refusal = λ a n. refusal a d (reply_to j a) n;
      deleted = λ a c w. deleted-iff j h d m t a c w;
      progress = λ None ts y n c quiet enough. progress ts j h d m t (not-dropped j h d m t None) y n c quiet (inr (omega arith, omega arith));
    }

-- ---- the whole list

-- a reader that starts after the calls `before` stands rightly in the end
module _ (ts : List Turn) (start : ℕ) (f : Filter) (pos : start ≡ 0 → ⊥) where
  pub stands : (before : List Call) (j : Journal) (h : History) → Sim j h → AllTyped (before ++ map call_of ts) → NoCreation j (before ++ map call_of ts)
      → Startable (notes h before) start → Chosen (runs j before) (fresh start f) ts
      → Stand (notes h (before ++ map call_of ts)) (follow (runs j before) (fresh start f) ts)
  stands [] j h m y n at own = stand-run ts j h (fresh start f) m (stand-fresh j h m start f pos at) y n own
  stands (c ∷ before) j h m y n at own = stands before (next j c) (note h c) (sim-step j h m c y.0 n.0).0 y.1 n.1 at own

-- the promise to every reader, over every list of calls from a creation on
pub demand3 : Demand3
demand3 j c h k o before ts start f w y n at pos own =
    let m = opening-sim j c h w k o in
    promise (runs (next j c) (before ++ map call_of ts)) (notes h (before ++ map call_of ts)) (follow (runs (next j c) before) (fresh start f) ts)
    (sim-run (before ++ map call_of ts) (next j c) h m y n) (stands ts start f pos before (next j c) h m y n at own)
