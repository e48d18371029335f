-- A name behind the path of its parent.
-- Assumes nothing.
use mathlib.Core.Path.{◌≡◌, refl, sym, ap, ◌∙◌, subst}
use mathlib.Core.Bool.{Bool, true, false, cond}
use mathlib.Core.List.{List, [], ◌++◌}
use Rattle.std.specs.Prelude.{Option, None, Some, IsSome}
use Prim.Native.Nat.{ℕ, ◌+◌, ◌-◌, ◌≤◌}
use native.Mathlib.Omega.{arith}
use lib.Dec.{eqb}
use lib.ListN.{length, take, drop, length-append}
use Rattle.le.specs.Numbers.{le, number_at}
use Rattle.le.proofs.Tail.{lent, back, Put, put_first, put_next}
use Rattle.status.specs.declared.Status.{Status}
use Rattle.file_ids.specs.Ids.{id_number}
use Rattle.file_table.specs.Table.{Row, rows, row_name, good_row, Stands}
use Rattle.file_table.specs.Steps.{row_at}
use Rattle.file_path.specs.Path.{Way, stopped, below, upward, separator, joined}
use Rattle.file_path.specs.Steps.{is_reached, path_of, Fits, part, Writes}
use Rattle.file_path.proofs.Upward.{up_root, up-spent, below-path, below-reached}
use Rattle.file_path.proofs.Placing.{run-name, run_length, no_row, at_row}

-- a run that was put at the start
put-writes : {run out last : List ℕ} {n : ℕ} → Put out n run last → Writes run out n last
put-writes p = (sym p.size, p.whole)

-- ---- a row's name

module _ (pool table : List ℕ) (at : ℕ) (g : good_row pool (row_at table at) ≡ true) (from l : ℕ) (p : from ≡ number_at table (at + 48) 8) (q : l ≡ number_at table (at + 44) 4) where
  abbrev name : List ℕ
  name = row_name pool (row_at table at)

  abbrev run : List ℕ
  run = take (from + l - from) (drop from pool)

  is_name : run ≡ name
  is_name = run-name pool table at g from l p q

  long : length name ≡ l
  long = run_length pool table at g from l p q

  pub copied-length : length run ≡ l
  copied-length = ap length is_name ∙ long

  part_length : (b : Bool) → length (part b pool (row_at table at)) ≡ length (cond b [] separator) + l
  part_length b = length-append (cond b [] separator) name ∙ ap (λ (k : ℕ). length (cond b [] separator) + k) long

  pub room-first : (b : Bool) → b ≡ true → (out : List ℕ) → length (part b pool (row_at table at)) ≤ length out → l ≤ length out
  room-first b t out h = omega (arith, part_length b, h, ap (λ (x : Bool). length (cond x [] separator)) t)

  pub room-more : (b : Bool) → b ≡ false → (out : List ℕ) → length (part b pool (row_at table at)) ≤ length out → 2 + l ≤ length out
  room-more b t out h = omega (arith, part_length b, h, ap (λ (x : Bool). length (cond x [] separator)) t)

  module _ (out : List ℕ) where
    -- the run that was copied, at the start of a slice
    copied : (last o : List ℕ) → last ≡ run ++ drop (length run) o → last ≡ name ++ drop l o
    copied last o e = e ∙ ap (λ (x : List ℕ). x ++ drop (length x) o) is_name ∙ ap (λ (k : ℕ). name ++ drop k o) long

    pub writes-first : (b : Bool) → b ≡ true → (last : List ℕ) → last ≡ run ++ drop (length run) out → Writes (part b pool (row_at table at)) out l last
    writes-first b t last e = subst (λ (x : Bool). Writes (part x pool (row_at table at)) out l last) (sym t) (put-writes (put_first l name out last long (copied last out e)))

    pub writes_more : (b : Bool) → b ≡ false → (mid last : List ℕ) → mid ≡ le 2 0x5C ++ drop 2 out → last ≡ run ++ drop (length run) (lent 2 mid) → 2 + l ≤ length out
        → Writes (part b pool (row_at table at)) out (2 + l) (back 2 mid last)
    unfolding le
    writes_more b t mid last e d h =
        subst (λ (x : Bool). Writes (part x pool (row_at table at)) out (2 + l) (back 2 mid last)) (sym t)
        (put-writes (put_next (put_first 2 separator out mid refl e) l name last long h (copied last (lent 2 mid) d)))

-- ---- the path of an id that has one

module _ (pool table : List ℕ) (root left id room : ℕ) (e : eqb id root ≡ false) (f : Fits (upward pool (rows table) root left id) room) where
  unreached : {x : Status} → upward pool (rows table) root left id ≡ stopped x → ⊥
  unreached q = let z : false ≡ true = ap is_reached (sym q) ∙ f.0 in let o : ◌≡◌ {A = ℕ} 0 1 = cc in omega arith

  pub some_left : left ≡ 0 → ⊥
  some_left z = unreached (ap (λ (k : ℕ). upward pool (rows table) root k id) z ∙ up-spent pool (rows table) root id e)

  pub some_row : (r : Option ℕ) → Stands id table r → IsSome r
  some_row (Some at) s = refl
  some_row None s = absurd (unreached (no_row pool table root left id e some_left s))

module _ (pool table : List ℕ) (root left id room : ℕ) (e : eqb id root ≡ false) (f : Fits (upward pool (rows table) root left id) room) (at : ℕ) (s : Stands id table (Some at)) where
  module _ (parent : ℕ) (p : parent ≡ id_number (row_at table at).parent) where
    abbrev own : Row
    own = row_at table at

    abbrev above : Way
    above = upward pool (rows table) root (left - 1) parent

    whole : upward pool (rows table) root left id ≡ below (row_name pool own) above
    whole = at_row pool table root left id e (some_left pool table root left id room e f) at s ∙ ap (λ (j : ℕ). below (row_name pool own) (upward pool (rows table) root (left - 1) j)) (sym p)

    above-reached : is_reached above ≡ true
    above-reached = sym (below-reached pool (rows table) root (left - 1) parent (row_name pool own)) ∙ ap is_reached (sym whole) ∙ f.0

    module _ (first : Bool) (q : first ≡ eqb parent root) where
      both : path_of (upward pool (rows table) root left id) ≡ path_of above ++ part first pool own
      both =
          ap path_of whole ∙ below-path pool (rows table) root (left - 1) parent (row_name pool own) above-reached
          ∙ ap (λ (b : Bool). path_of above ++ part b pool own) (sym q)

      pub both-fit : length (path_of above) + length (part first pool own) ≤ room
      both-fit = omega (arith, f.1, ap length both, length-append (path_of above) (part first pool own))

      pub writes-path : (out mid last : List ℕ) (n k : ℕ) → room ≡ length out → Writes (path_of above) out n mid → Writes (part first pool own) (lent n mid) k last
          → Writes (path_of (upward pool (rows table) root left id)) out (n + k) (back n mid last)
      writes-path out mid last n k r w v =
          subst (λ (l : List ℕ). Writes l out (n + k) (back n mid last)) (sym both)
          (put-writes (put_next (put_first n (path_of above) out mid (sym w.0) w.1) k (part first pool own) last (sym v.0) (omega (arith, r, both-fit, w.0, v.0)) v.1))

    pub above-fits : Fits above room
    above-fits = (above-reached, omega (arith, both-fit (eqb parent root) refl))

-- the root's path
pub writes-root : (pool : List ℕ) (rs : List Row) (root left id : ℕ) (out : List ℕ) → eqb id root ≡ true → Writes (path_of (upward pool rs root left id)) out 0 out
unfolding joined
writes-root pool rs root left id out e = subst (λ (w : Way). Writes (path_of w) out 0 out) (sym (up_root pool rs root left id e)) (refl, refl)
