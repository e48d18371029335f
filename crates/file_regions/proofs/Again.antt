-- Whoever is warned and asks again has the whole answer.
-- Assumes nothing.
use mathlib.Core.Path.{◌≡◌, refl, sym, ap, ap₂, ◌∙◌}
use mathlib.Core.Bool.{Bool, true, false, cond}
use Rattle.std.specs.Prelude.{None}
use mathlib.Core.List.{List, [], ◌∷◌, ◌++◌, append-nil}
use Prim.Native.Nat.{ℕ, suc, ◌+◌, ◌-◌, ◌*◌, ◌%◌, ◌^◌, ◌<◌, min}
use native.Mathlib.Omega.{arith}
use lib.Dec.{leb, eqb}
use lib.ListN.{length, drop}
use borrow.Author.Tests.{leb-true, le-ltb, le-leb, ne_eqb}
use Rattle.le.specs.Bytes.{Bytes}
use Rattle.status.specs.declared.Status.TheVariants.{Success, BufferOverflow}
use Rattle.status.specs.Reply.{Reply, give, answer, written}
use Rattle.volume.specs.declared.Volume.{Volume}
use Rattle.volume.specs.State.{supported}
use Rattle.file_record.specs.declared.FileRecord.{FileRecord}
use Rattle.file_regions.specs.declared.Asked.{Asked}
use Rattle.file_regions.specs.declared.Region.{Region}
use Rattle.file_regions.specs.Regions.{asked_of, good_sizes, asked_check, region, first_region, second_due, second_region, regions_of, is_outside, region_bytes, list_bytes, regions_bytes, answer_regions, regions_answer, regions_reply}
use Rattle.file_regions.specs.Caller.{input_for, region_at}
use Rattle.file_regions.specs.Again.{behind, next_reply, Again}
use Rattle.file_regions.proofs.Writing.{length-region}
use Rattle.file_regions.proofs.Caller.{asked-back, list_back, at_back}
use Rattle.file_regions.proofs.Checked.{Passed, past-checks, asked-facts, asked-passes, usage-narrow, first-is, is-due, reply-is, all-given}

-- ---- what a warning says

-- a range that goes past the valid data, which ends ahead of the file
record Crosses (f : FileRecord) (a : Asked) : Type 0 where
  start : a.offset < f.valid
  more : f.valid < f.eof
  past : f.valid < a.offset + a.length
  end : a.offset + a.length < 2 ^ 63
  odd : eqb (a.usage % 2) 1 ≡ true
  narrow : a.usage < 2 ^ 32

-- not where the reply is a success
no-success : (t : Bool) (s : List ℕ) (r : Reply) → (answer (cond t (give Success s) r)).status ≡ BufferOverflow → (t ≡ false) × ((answer r).status ≡ BufferOverflow)
no-success true s r e = let z : ◌≡◌ {A = ℕ} 0 1 = cc in absurd (omega arith)
no-success false s r e = (refl, e)

-- 40 bytes hold one region, so where they are too few there are two
two-due : (eof vdl : ℕ) (a : Asked) (room : ℕ) → leb 40 room ≡ true → leb (16 + 24 * length (regions_of eof vdl a)) room ≡ false → second_due eof vdl a ≡ true
two-due eof vdl a room h e = by (second_due eof vdl a) (second_region eof vdl a ∷ []) e
  where
    by : (t : Bool) (rs : List Region) → leb (16 + 24 * suc (length (cond t rs []))) room ≡ false → t ≡ true
    by true rs k = refl
    by false rs k = sym k ∙ h

-- ---- the replies

-- two regions with too little room
two-answer : (r q : Region) (room : ℕ) → leb 64 room ≡ false → answer_regions (r ∷ q ∷ []) room ≡ give BufferOverflow (regions_bytes 2 (r ∷ []))
unfolding answer_regions
two-answer r q room h = rw h

-- the two lists of one region are the list of both
lists-join : (r q : Region) → list_bytes (r ∷ []) ++ list_bytes (q ∷ []) ≡ list_bytes (r ∷ q ∷ [])
unfolding list_bytes
lists-join r q = rw (append-nil (region_bytes r))

-- ---- the second call

abbrev first : FileRecord → Asked → Region
first f a = first_region f.eof f.valid a

abbrev second : FileRecord → Asked → Region
second f a = second_region f.eof f.valid a

-- what is left from the end of the valid data on
abbrev left : FileRecord → Asked → Asked
left f a = record { offset = f.valid; length = a.length - (f.valid - a.offset); usage = a.usage }

asked-same : (x y : Asked) → x.offset ≡ y.offset → x.length ≡ y.length → x.usage ≡ y.usage → x ≡ y
asked-same x y e q r =
    ap₂ (λ (m n : ℕ). record { offset = m; length = n; usage = x.usage }) e q
    ∙ ap (λ (u : ℕ). record { offset = y.offset; length = y.length; usage = u }) r

module _ (f : FileRecord) (a : Asked) (w : Crosses f a) where
  first_to : first f a ≡ region a.offset (f.valid - a.offset) a.usage
  first_to =
      let e : min (f.valid - a.offset) a.length ≡ f.valid - a.offset = omega arith in
      first-is f.eof f.valid a w.start ∙ ap (λ (n : ℕ). region a.offset n a.usage) e

  -- what the bytes of the warning say
  warned-region : region_at (regions_bytes 2 (first f a ∷ [])) 16 ≡ region a.offset (f.valid - a.offset) a.usage
  warned-region =
      let r = region a.offset (f.valid - a.offset) a.usage in
      ap (λ (q : Region). region_at (regions_bytes 2 (q ∷ [])) 16) first_to ∙ at_back 2 r [] (record { offset = omega arith; length = omega arith; usage = w.narrow })

  behind-left : behind a (region a.offset (f.valid - a.offset) a.usage) ≡ left f a
  behind-left = asked-same _ (left f a) (omega arith) (omega arith) (omega arith)

  -- it is read back as it is, passes the checks, and lies in the file
  left_back : asked_of (input_for (left f a)) ≡ left f a
  left_back = asked-back (left f a) (omega arith) (omega arith) w.narrow

  left-passes : asked_check (left f a) ≡ None
  left-passes = asked-passes (left f a) (omega arith) (omega arith) w.odd

  left-inside : is_outside f.eof f.valid ≡ false
  unfolding is_outside
  left-inside = rw (le-ltb f.eof f.valid (omega arith), ne_eqb f.valid f.eof (λ z. omega (arith, z)))

  -- its one region is the second of the whole
  left-regions : regions_of f.eof f.valid (left f a) ≡ second f a ∷ []
  unfolding first_region second_due second_region
  left-regions = rw (le-leb f.valid f.valid (omega arith), le-ltb f.valid f.valid (omega arith), first_to)

  left-reply : (v : Volume) (room : ℕ) → supported v.regions ≡ true → good_sizes f ≡ true → leb 40 room ≡ true
      → regions_reply v f (input_for (left f a)) room ≡ give Success (regions_bytes 1 (second f a ∷ []))
  left-reply v room h s k =
      let n : length (input_for (left f a)) ≡ 24 = length-region (region f.valid (a.length - (f.valid - a.offset)) a.usage) in
      let p : Passed v f (input_for (left f a)) room = record { has = h; sizes = s; long = rw n; asked = rw left_back left-passes; space = k } in
      reply-is v f (input_for (left f a)) room p (ap (λ (x : Asked). is_outside f.eof x.offset) left_back ∙ left-inside)
      ∙ ap (λ (x : Asked). answer_regions (regions_of f.eof f.valid x) room) left_back
      ∙ ap (λ (rs : List Region). answer_regions rs room) left-regions
      ∙ all-given (second f a ∷ []) room (leb-true 40 room k)

-- ---- both calls

module _ (v : Volume) (f : FileRecord) (input : List ℕ) (room : ℕ) (b : Bytes input) (e : (answer (regions_reply v f input room)).status ≡ BufferOverflow) where
  abbrev a : Asked
  a = asked_of input

  abbrev all : List Region
  all = regions_of f.eof f.valid a

  -- the warning came behind the checks, inside the file, and for want of room
  checked : Passed v f input room × ((answer (regions_answer f a room)).status ≡ BufferOverflow)
  checked = past-checks v f input room BufferOverflow (record { request = refl; corrupt = refl; small = refl; parameter = refl }) e

  p : Passed v f input room
  p = checked.0

  within : (is_outside f.eof a.offset ≡ false) × ((answer (answer_regions all room)).status ≡ BufferOverflow)
  unfolding regions_answer
  within = no-success (is_outside f.eof a.offset) [] (answer_regions all room) checked.1

  short : leb (16 + 24 * length all) room ≡ false
  unfolding answer_regions
  short = (no-success (leb (16 + 24 * length all) room) _ _ within.1).0

  due : second_due f.eof f.valid a ≡ true
  due = two-due f.eof f.valid a room p.space short

  w : Crosses f a
  w =
      let d = is-due f.eof f.valid a due in
      let k = asked-facts a p.asked in
      record { start = d.0; more = d.1; past = d.2; end = k.1; odd = k.2; narrow = usage-narrow input b }

  -- so there are two regions, and the three replies are these
  two : all ≡ first f a ∷ second f a ∷ []
  two = ap (λ (t : Bool). first f a ∷ cond t (second f a ∷ []) []) due

  warning : regions_reply v f input room ≡ give BufferOverflow (regions_bytes 2 (first f a ∷ []))
  warning =
      reply-is v f input room p within.0
      ∙ ap (λ (rs : List Region). answer_regions rs room) two
      ∙ two-answer (first f a) (second f a) room (sym (ap (λ (rs : List Region). leb (16 + 24 * length rs) room) two) ∙ short)

  large : regions_reply v f input 64 ≡ give Success (regions_bytes 2 (first f a ∷ second f a ∷ []))
  large =
      reply-is v f input 64 (record { has = p.has; sizes = p.sizes; long = p.long; asked = p.asked; space = refl }) within.0
      ∙ ap (λ (rs : List Region). answer_regions rs 64) two
      ∙ all-given (first f a ∷ second f a ∷ []) 64 (omega arith)

  next : next_reply v f input room ≡ give Success (regions_bytes 1 (second f a ∷ []))
  next =
      ap (λ (r : Reply). regions_reply v f (input_for (behind a (region_at (written r) 16))) room) warning
      ∙ ap (λ (x : Asked). regions_reply v f (input_for x) room) (ap (behind a) (warned-region f a w) ∙ behind-left f a w)
      ∙ left-reply f a w v room p.has p.sizes p.space

  joined : drop 16 (written (regions_reply v f input room)) ++ drop 16 (written (next_reply v f input room)) ≡ drop 16 (written (regions_reply v f input 64))
  joined =
      ap₂ (λ (r q : Reply). drop 16 (written r) ++ drop 16 (written q)) warning next
      ∙ ap₂ (λ (x y : List ℕ). x ++ y) (list_back 2 1 (first f a ∷ [])) (list_back 1 1 (second f a ∷ []))
      ∙ lists-join (first f a) (second f a)
      ∙ sym (list_back 2 2 (first f a ∷ second f a ∷ []))
      ∙ sym (ap (λ (r : Reply). drop 16 (written r)) large)

pub again : Again
again v f input room b e = record { done = ap (λ (r : Reply). (answer r).status) (next v f input room b e); whole = joined v f input room b e }
