-- Behind the checks: what a call that has passed them asks for, and what it is answered.
-- Assumes nothing.
use mathlib.Core.Path.{◌≡◌, refl}
use mathlib.Core.Bool.{Bool, true, false, cond, ◌&&◌, ◌||◌}
use Rattle.std.specs.Prelude.{None}
use mathlib.Core.List.{List, [], ◌∷◌}
use Prim.Native.Nat.{ℕ, ◌+◌, ◌-◌, ◌*◌, ◌%◌, ◌^◌, ◌<◌, ◌≤◌, min}
use native.Mathlib.Omega.{arith}
use lib.Dec.{leb, ltb, eqb}
use lib.ListN.{length}
use borrow.Author.Tests.{ltb-true, ltb-false, leb-true, eqb-true, lt-ltb, lt-leb, le-leb, eq-eqb}
use Rattle.le.specs.Bytes.{Bytes}
use Rattle.le.proofs.Places.{number_lt}
use Rattle.le.proofs.Runs.{and_left, and_right}
use Rattle.status.specs.declared.Status.{Status}
use Rattle.status.specs.declared.Status.TheVariants.{Success, InvalidDeviceRequest, InvalidParameter, BufferTooSmall, FileCorruptError}
use Rattle.status.specs.Number.{number}
use Rattle.status.specs.Check.{unless, else}
use Rattle.status.specs.Reply.{give, answer}
use Rattle.status.proofs.Checking.{else-none, unless-true, Never, nevers}
use Rattle.status.proofs.Replies.{behind-checks}
use Rattle.volume.specs.declared.Volume.{Volume}
use Rattle.volume.specs.State.{supported}
use Rattle.file_record.specs.declared.FileRecord.{FileRecord}
use Rattle.file_regions.specs.declared.Asked.{Asked}
use Rattle.file_regions.specs.declared.Region.{Region}
use Rattle.file_regions.specs.Regions.{asked_of, good_sizes, asked_check, regions_check, region, first_region, second_due, second_region, regions_of, is_outside, regions_bytes, answer_regions, regions_answer, regions_reply}

-- ---- the checks

-- what a call that has passed its checks says
pub record Passed (v : Volume) (f : FileRecord) (input : List ℕ) (room : ℕ) : Type 0 where
  pub has : supported v.regions ≡ true
  pub sizes : good_sizes f ≡ true
  pub long : eqb (length input) 0 || leb 24 (length input) ≡ true
  pub asked : asked_check (asked_of input) ≡ None
  pub space : leb 40 room ≡ true

pub passed : (v : Volume) (f : FileRecord) (input : List ℕ) (room : ℕ) → regions_check v f input room ≡ None → Passed v f input room
unfolding regions_check
passed v f input room e =
    let n = length input in
    let k = asked_check (asked_of input) in
    let last = unless (leb 40 room) BufferTooSmall in
    let short = unless (eqb n 0 || leb 24 n) BufferTooSmall in
    let sized = unless (good_sizes f) FileCorruptError in
    let none_has = unless (supported v.regions) InvalidDeviceRequest in
    let w = else-none none_has (else sized (else short (else k last))) e in
    let x = else-none sized (else short (else k last)) w.1 in
    let y = else-none short (else k last) x.1 in
    let z = else-none k last y.1 in
    record {
      has = unless-true (supported v.regions) InvalidDeviceRequest w.0;
      sizes = unless-true (good_sizes f) FileCorruptError x.0;
      long = unless-true (eqb n 0 || leb 24 n) BufferTooSmall y.0;
      asked = z.0;
      space = unless-true (leb 40 room) BufferTooSmall z.1;
    }

pub passes : (v : Volume) (f : FileRecord) (input : List ℕ) (room : ℕ) → Passed v f input room → regions_check v f input room ≡ None
unfolding regions_check
passes v f input room p = rw (p.has, p.sizes, p.long, p.asked, p.space)

-- a status that is none of the four refusals
pub record Unrefused (x : Status) : Type 0 where
  pub request : eqb (number InvalidDeviceRequest) (number x) ≡ false
  pub corrupt : eqb (number FileCorruptError) (number x) ≡ false
  pub small : eqb (number BufferTooSmall) (number x) ≡ false
  pub parameter : eqb (number InvalidParameter) (number x) ≡ false

never-check : (v : Volume) (f : FileRecord) (input : List ℕ) (room : ℕ) (x : Status) → Unrefused x → Never x (regions_check v f input room)
unfolding regions_check asked_check
never-check v f input room x u = search (nevers, u.request, u.corrupt, u.small, u.parameter) depth 8

-- comes behind them
pub past-checks : (v : Volume) (f : FileRecord) (input : List ℕ) (room : ℕ) (x : Status) → Unrefused x → (answer (regions_reply v f input room)).status ≡ x
    → Passed v f input room × ((answer (regions_answer f (asked_of input) room)).status ≡ x)
unfolding regions_reply
past-checks v f input room x u e =
    let k = behind-checks x (regions_check v f input room) (regions_answer f (asked_of input) room) (never-check v f input room x u) e in
    (passed v f input room k.0, k.1)

-- ---- what is asked for

-- by a call that has passed its checks
pub asked-facts : (a : Asked) → asked_check a ≡ None → (0 < a.length) × (a.offset + a.length < 2 ^ 63) × (eqb (a.usage % 2) 1 ≡ true)
unfolding asked_check
asked-facts a e =
    let above = ltb 0 a.length in
    let near = ltb (a.offset + a.length) (2 ^ 63) in
    let odd = eqb (a.usage % 2) 1 in
    let l = else-none (unless (above && ltb a.length (2 ^ 63)) InvalidParameter) (else (unless near InvalidParameter) (unless odd InvalidParameter)) e in
    let k = else-none (unless near InvalidParameter) (unless odd InvalidParameter) l.1 in (
      ltb-true 0 a.length (and_left above _ (unless-true (above && ltb a.length (2 ^ 63)) InvalidParameter l.0)),
      ltb-true _ _ (unless-true near InvalidParameter k.0),
      unless-true odd InvalidParameter k.1,
    )

-- and what passes them
pub asked-passes : (a : Asked) → 0 < a.length → a.offset + a.length < 2 ^ 63 → eqb (a.usage % 2) 1 ≡ true → asked_check a ≡ None
unfolding asked_check
asked-passes a h k e = rw (lt-ltb 0 a.length h, lt-ltb a.length (2 ^ 63) (omega arith), lt-ltb (a.offset + a.length) (2 ^ 63) k, e)

-- a usage that was read fits its four bytes
pub usage-narrow : (input : List ℕ) → Bytes input → (asked_of input).usage < 2 ^ 32
unfolding asked_of
usage-narrow input b = by (eqb (length input) 0) _ _ (omega arith) (number_lt input 16 4 b)
  where
    by : (t : Bool) (x y : Asked) → x.usage < 2 ^ 32 → y.usage < 2 ^ 32 → (cond t x y).usage < 2 ^ 32
    by true x y h k = h
    by false x y h k = k

-- ---- the regions

-- the sizes of a file record that is right
pub good-sizes : (f : FileRecord) → good_sizes f ≡ true → (f.valid ≤ f.eof) × (f.eof < 2 ^ 63)
unfolding good_sizes
good-sizes f e = (leb-true _ _ (and_left (leb f.valid f.eof) _ e), ltb-true _ _ (and_right (leb f.valid f.eof) _ e))

-- an offset that is not outside lies within the file
pub inside : (eof offset : ℕ) → is_outside eof offset ≡ false → offset ≤ eof
unfolding is_outside
inside eof offset e = ltb-false eof offset (or_left (ltb eof offset) _ e)
  where
    or_left : (a b : Bool) → a || b ≡ false → a ≡ false
    or_left true b k = k
    or_left false b k = refl

-- and one that is lies at its end or past it
pub outside-past : (eof offset : ℕ) → is_outside eof offset ≡ true → eof ≤ offset
unfolding is_outside
outside-past eof offset e = by (ltb eof offset) refl e
  where
    by : (t : Bool) → ltb eof offset ≡ t → t || (eqb offset eof && ltb 0 eof) ≡ true → eof ≤ offset
    by true q z = let h : eof < offset = ltb-true _ _ q in omega arith
    by false q z = let h : offset ≡ eof = eqb-true _ _ (and_left (eqb offset eof) _ z) in omega arith

-- where all but 0 are outside
pub past-outside : (eof offset : ℕ) → eof ≤ offset → 0 < offset → is_outside eof offset ≡ true
unfolding is_outside
past-outside eof offset h k = by (ltb eof offset) refl
  where
    by : (t : Bool) → ltb eof offset ≡ t → t || (eqb offset eof && ltb 0 eof) ≡ true
    by true q = refl
    by false q =
        let l : offset ≤ eof = ltb-false _ _ q in
        rw (eq-eqb offset eof (omega arith), lt-ltb 0 eof (omega arith))

-- the first region of a range that begins below Vdl ends with the valid data or with the range
pub first-is : (eof vdl : ℕ) (a : Asked) → a.offset < vdl → first_region eof vdl a ≡ region a.offset (min (vdl - a.offset) a.length) a.usage
unfolding first_region
first-is eof vdl a h = rw (lt-leb _ _ h)

-- what it takes for a second to be due
pub is-due : (eof vdl : ℕ) (a : Asked) → second_due eof vdl a ≡ true → (a.offset < vdl) × (vdl < eof) × (vdl < a.offset + a.length)
unfolding second_due
is-due eof vdl a e =
    let h : a.offset < vdl = ltb-true _ _ (and_left (ltb a.offset vdl) _ e) in
    let l = and_right (ltb a.offset vdl) _ e in
    let k : min (vdl - a.offset) a.length < a.length = ltb-true _ _ (rw (first-is eof vdl a h) at (and_right (ltb vdl eof) _ l)) in
    (h, ltb-true _ _ (and_left (ltb vdl eof) _ l), omega arith)

-- there are two at most
pub few : (eof vdl : ℕ) (a : Asked) → length (regions_of eof vdl a) ≤ 2
few eof vdl a = go (second_due eof vdl a)
  where
    go : (b : Bool) → length (first_region eof vdl a ∷ cond b (second_region eof vdl a ∷ []) []) ≤ 2
    go true = omega arith
    go false = omega arith

-- ---- the reply

-- inside the file
pub reply-is : (v : Volume) (f : FileRecord) (input : List ℕ) (room : ℕ) → Passed v f input room → is_outside f.eof (asked_of input).offset ≡ false
    → regions_reply v f input room ≡ answer_regions (regions_of f.eof f.valid (asked_of input)) room
unfolding regions_reply regions_answer
reply-is v f input room p e = rw (passes v f input room p, e)

-- and outside
pub reply-none : (v : Volume) (f : FileRecord) (input : List ℕ) (room : ℕ) → Passed v f input room → is_outside f.eof (asked_of input).offset ≡ true
    → regions_reply v f input room ≡ give Success []
unfolding regions_reply regions_answer
reply-none v f input room p e = rw (passes v f input room p, e)

-- regions that fit are all given
pub all-given : (rs : List Region) (room : ℕ) → 16 + 24 * length rs ≤ room → answer_regions rs room ≡ give Success (regions_bytes (length rs) rs)
unfolding answer_regions
all-given rs room h = rw (le-leb (16 + 24 * length rs) room h)
