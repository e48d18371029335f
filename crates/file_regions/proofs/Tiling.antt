-- A call that succeeds tiles what it was asked for, and so do two calls for one.
-- Assumes nothing.
use mathlib.Core.Path.{◌≡◌, refl, sym, ap, ap₂, subst, ◌∙◌}
use mathlib.Core.Bool.{Bool, true, false, cond, ◌&&◌}
use Rattle.std.specs.Prelude.{None}
use mathlib.Core.List.{List, [], ◌∷◌, ◌++◌, append-nil}
use Prim.Native.Nat.{ℕ, ◌+◌, ◌-◌, ◌*◌, ◌%◌, ◌^◌, ◌≤◌, ◌<◌, min}
use native.Mathlib.Omega.{arith}
use lib.Dec.{leb, ltb, eqb}
use lib.ListN.{length}
use borrow.Author.Tests.{ltb-true, ltb-false, leb-true, leb-false, lt-ltb, le-ltb, le-leb, lt-leb}
use Rattle.le.specs.Numbers.{unle, number_at}
use Rattle.le.proofs.Runs.{and_left, and_right}
use Rattle.status.specs.declared.Status.TheVariants.{Success, BufferOverflow}
use Rattle.status.specs.Reply.{Reply, give, answer, written}
use Rattle.volume.specs.declared.Volume.{Volume}
use Rattle.file_record.specs.declared.FileRecord.{FileRecord}
use Rattle.file_regions.specs.declared.Asked.{Asked}
use Rattle.file_regions.specs.declared.Region.{Region}
use Rattle.file_regions.specs.Regions.{asked_of, asked_check, region, first_region, second_due, second_region, regions_of, is_outside, regions_bytes, answer_regions, regions_reply}
use Rattle.file_regions.specs.Caller.{regions_from, regions_in, is_whole}
use Rattle.file_regions.specs.Tiling.{lies_in, usages_of, usages_in, end_of, is_asked, usage_due, usages_due, Tiled, Succeeds, Tiles, first_part, second_part, Asks, Split}
use Rattle.file_regions.proofs.Caller.{Narrow, AllNarrow, in-back, whole_back}
use Rattle.file_regions.proofs.Checked.{Passed, past-checks, asked-facts, asked-passes, usage-narrow, good-sizes, inside, outside-past, past-outside, is-due, few, reply-is, reply-none, all-given}

-- ---- the regions of a range tile it

-- a region from one byte up to another
record Covers (r : Region) (from to usage : ℕ) : Type 0 where
  starts : r.offset ≡ from
  ends : r.offset + r.length ≡ to
  used : r.usage ≡ usage

covers-bytes : (r : Region) (from to usage : ℕ) → Covers r from to usage → (byte : ℕ) → lies_in r byte ≡ leb from byte && ltb byte to
unfolding lies_in
covers-bytes r from to usage c byte = ap₂ (λ (m n : ℕ). leb m byte && ltb byte n) c.starts c.ends

module _ (f : FileRecord) (a : Asked) (byte : ℕ) where
  due_below : byte < f.valid → usage_due f a byte ≡ a.usage
  unfolding usage_due
  due_below h = rw (lt-ltb byte f.valid h) (omega arith)

  due-behind : f.valid ≤ byte → usage_due f a byte ≡ 0
  unfolding usage_due
  due-behind h = rw (le-ltb byte f.valid h) (omega arith)

  -- one region for all of the range
  one-tile : (r : Region) (usage : ℕ) → Covers r a.offset (end_of f a) usage → (a.offset ≤ byte → byte < end_of f a → usage_due f a byte ≡ usage)
      → usages_of (r ∷ []) byte ≡ usages_due f a byte
  unfolding usages_of usages_due is_asked
  one-tile r usage c h =
      ap₂ (λ (t : Bool) (u : ℕ). cond t (u ∷ []) []) (covers-bytes r a.offset (end_of f a) usage c byte) c.used
      ∙ by (leb a.offset byte && ltb byte (end_of f a)) refl
    where
      by : (t : Bool) → leb a.offset byte && ltb byte (end_of f a) ≡ t → cond t (usage ∷ []) [] ≡ cond t (usage_due f a byte ∷ []) []
      by true e =
          ap (λ (u : ℕ). u ∷ [])
          (sym (h (leb-true _ _ (and_left (leb a.offset byte) _ e)) (ltb-true _ _ (and_right (leb a.offset byte) _ e))))
      by false e = refl

  -- two that meet at Vdl
  two-tile : (r q : Region) → Covers r a.offset f.valid a.usage → Covers q f.valid (end_of f a) 0 → a.offset ≤ f.valid → f.valid ≤ end_of f a
      → usages_of (r ∷ q ∷ []) byte ≡ usages_due f a byte
  unfolding usages_of usages_due is_asked
  two-tile r q c d h k =
      ap₂ (λ (t : Bool) (u : ℕ). cond t (u ∷ usages_of (q ∷ []) byte) (usages_of (q ∷ []) byte)) (covers-bytes r _ _ _ c byte) c.used
      ∙ ap₂ (λ (t : Bool) (u : ℕ). cond (leb a.offset byte && ltb byte f.valid) (a.usage ∷ cond t (u ∷ []) []) (cond t (u ∷ []) []))
      (covers-bytes q _ _ _ d byte) d.used
      ∙ by (ltb byte f.valid) refl
    where
      by : (t : Bool) → ltb byte f.valid ≡ t
          → cond (leb a.offset byte && t) (a.usage ∷ cond (leb f.valid byte && ltb byte (end_of f a)) (0 ∷ []) [])
          (cond (leb f.valid byte && ltb byte (end_of f a)) (0 ∷ []) [])
          ≡ cond (leb a.offset byte && ltb byte (end_of f a)) (usage_due f a byte ∷ []) []
      by true e =
          let l : byte < f.valid = ltb-true byte f.valid e in
          rw (lt-leb f.valid byte l, lt-ltb byte (end_of f a) (omega arith), due_below l)
      by false e =
          let l : f.valid ≤ byte = ltb-false byte f.valid e in
          rw (le-leb f.valid byte l, le-leb a.offset byte (omega arith), due-behind l)

module _ (f : FileRecord) (a : Asked) where
  abbrev first : Region
  first = first_region f.eof f.valid a

  abbrev second : Region
  second = second_region f.eof f.valid a

  -- below the end of the valid data: the first up to there, or up to the end of the range if that is nearer
  covers_below : a.offset < f.valid → Covers first a.offset (min f.valid (a.offset + a.length)) a.usage
  unfolding first_region
  covers_below h = rw (lt-leb f.valid a.offset h) (record { starts = omega arith; ends = omega arith; used = omega arith })

  -- the second from there on
  covers-second : a.offset < f.valid → f.valid < f.eof → f.valid < a.offset + a.length → Covers second f.valid (end_of f a) 0
  unfolding second_region
  covers-second h k l =
      let e : first.length ≡ f.valid - a.offset = omega (arith, (covers_below h).starts, (covers_below h).ends) in
      record { starts = omega arith; ends = omega arith; used = omega arith }

  -- behind the valid data: one region up to the end
  covers-behind : f.valid ≤ a.offset → a.offset ≤ f.eof → Covers first a.offset (end_of f a) 0
  unfolding first_region
  covers-behind h k = rw (le-leb f.valid a.offset h) (record { starts = omega arith; ends = omega arith; used = omega arith })

  -- none is due if the first goes up to the end
  not-due : f.valid ≤ f.eof → a.offset < f.valid → second_due f.eof f.valid a ≡ false → min f.valid (a.offset + a.length) ≡ end_of f a
  unfolding second_due
  not-due h k e = by (ltb f.valid f.eof) refl (rw (lt-ltb a.offset f.valid k) at e)
    where
      by : (t : Bool) → ltb f.valid f.eof ≡ t → t && ltb first.length a.length ≡ false → min f.valid (a.offset + a.length) ≡ end_of f a
      by true q z =
          omega (arith, ltb-true f.valid f.eof q, ltb-false first.length a.length z, (covers_below k).starts, (covers_below k).ends)
      by false q z = omega (arith, ltb-false f.valid f.eof q)

  behind-tile : f.valid ≤ a.offset → a.offset ≤ f.eof → (byte : ℕ) → usages_of (regions_of f.eof f.valid a) byte ≡ usages_due f a byte
  unfolding second_due
  behind-tile h k byte =
      rw (le-ltb a.offset f.valid h)
      (one-tile f a byte first 0 (covers-behind h k) (λ l m. due-behind f a byte (omega arith)))

  below-tile : f.valid ≤ f.eof → a.offset < f.valid → (byte : ℕ) → usages_of (regions_of f.eof f.valid a) byte ≡ usages_due f a byte
  below-tile h k byte = by (second_due f.eof f.valid a) refl
    where
      by : (t : Bool) → second_due f.eof f.valid a ≡ t → usages_of (first ∷ cond t (second ∷ []) []) byte ≡ usages_due f a byte
      by true e =
          let d = is-due f.eof f.valid a e in
          let m : min f.valid (a.offset + a.length) ≡ f.valid = omega (arith, d.2) in
          two-tile f a byte first second (subst (λ (n : ℕ). Covers first a.offset n a.usage) m (covers_below k)) (covers-second k d.1 d.2) (omega arith)
          (omega (arith, d.1, d.2))
      by false e =
          let q = not-due h k e in
          one-tile f a byte first a.usage (subst (λ (n : ℕ). Covers first a.offset n a.usage) q (covers_below k))
          (λ l m. due_below f a byte (omega (arith, q)))

  -- so do those of any range that begins within the file
  regions-tile : f.valid ≤ f.eof → a.offset ≤ f.eof → (byte : ℕ) → usages_of (regions_of f.eof f.valid a) byte ≡ usages_due f a byte
  regions-tile h k byte = by (leb f.valid a.offset) refl
    where
      by : (t : Bool) → leb f.valid a.offset ≡ t → usages_of (regions_of f.eof f.valid a) byte ≡ usages_due f a byte
      by true e = behind-tile (leb-true _ _ e) k byte
      by false e = below-tile h (leb-false _ _ e) byte

-- ---- one call

-- from Eof on nothing is due
none-due : (f : FileRecord) (a : Asked) → f.eof ≤ a.offset → (byte : ℕ) → usages_due f a byte ≡ []
unfolding usages_due is_asked
none-due f a h byte = by (leb a.offset byte) refl
  where
    by : (t : Bool) → leb a.offset byte ≡ t → cond (t && ltb byte (end_of f a)) (usage_due f a byte ∷ []) [] ≡ []
    by true e = let k : a.offset ≤ byte = leb-true _ _ e in rw (le-ltb byte (end_of f a) (omega arith))
    by false e = refl

-- and nothing is in a reply without bytes
none_in : (byte : ℕ) → usages_in [] byte ≡ []
unfolding number_at unle regions_from usages_of
none_in byte = refl

-- regions that were given succeeded because they fit
was-given : (rs : List Region) (room : ℕ) → Succeeds (answer_regions rs room) → written (answer_regions rs room) ≡ regions_bytes (length rs) rs
unfolding answer_regions
was-given rs room e = by _ _ (leb (16 + 24 * length rs) room) e
  where
    by : (x y : List ℕ) (t : Bool) → Succeeds (cond t (give Success x) (give BufferOverflow y)) → written (cond t (give Success x) (give BufferOverflow y)) ≡ x
    by x y true k = refl
    by x y false k = let z : ◌≡◌ {A = ℕ} 0 1 = cc in absurd (omega arith)

-- the regions of a good file fit their bytes
narrow-first : (f : FileRecord) (a : Asked) → f.eof < 2 ^ 63 → a.offset + a.length < 2 ^ 63 → a.usage < 2 ^ 32 → Narrow (first_region f.eof f.valid a)
unfolding first_region
narrow-first f a h k l = by (leb f.valid a.offset)
  where
    by : (t : Bool) → Narrow (cond t (region a.offset (min a.length (f.eof - a.offset)) 0) (region a.offset (min (f.valid - a.offset) a.length) a.usage))
    by true = record { offset = omega arith; length = omega arith; usage = omega arith }
    by false = record { offset = omega arith; length = omega arith; usage = l }

narrow-second : (f : FileRecord) (a : Asked) → f.valid ≤ f.eof → f.eof < 2 ^ 63 → Narrow (second_region f.eof f.valid a)
unfolding second_region
narrow-second f a h k = record { offset = omega arith; length = omega arith; usage = omega arith }

-- a success comes behind the checks
success-passed : (v : Volume) (f : FileRecord) (input : List ℕ) (room : ℕ) → Succeeds (regions_reply v f input room) → Passed v f input room
success-passed v f input room s = (past-checks v f input room Success (record { request = refl; corrupt = refl; small = refl; parameter = refl }) s).0

module _ (v : Volume) (f : FileRecord) (input : List ℕ) (room : ℕ) (narrow : (asked_of input).usage < 2 ^ 32) (s : Succeeds (regions_reply v f input room)) where
  abbrev a : Asked
  a = asked_of input

  abbrev all : List Region
  all = regions_of f.eof f.valid a

  p : Passed v f input room
  p = success-passed v f input room s

  sizes : (f.valid ≤ f.eof) × (f.eof < 2 ^ 63)
  sizes = good-sizes f p.sizes

  all-narrow : AllNarrow all
  all-narrow =
      let first = narrow-first f a sizes.1 (asked-facts a p.asked).1 narrow in
      by (second_due f.eof f.valid a) first (narrow-second f a sizes.0 sizes.1)
    where
      by : {r q : Region} (t : Bool) → Narrow r → Narrow q → AllNarrow (r ∷ cond t (q ∷ []) [])
      by true x y = (x, (y, tt))
      by false x y = (x, tt)

  -- a reply inside the file gives all regions, and a caller reads them as they are
  given : is_outside f.eof a.offset ≡ false → written (regions_reply v f input room) ≡ regions_bytes (length all) all
  given e = let is = reply-is v f input room p e in ap written is ∙ was-given all room (subst Succeeds is s)

  regions-in : is_outside f.eof a.offset ≡ false → regions_in (written (regions_reply v f input room)) ≡ all
  regions-in e = ap regions_in (given e) ∙ in-back (length all) all (omega (arith, few f.eof f.valid a)) all-narrow

  reply-whole : is_whole (written (regions_reply v f input room)) ≡ true
  unfolding is_whole
  reply-whole = by (is_outside f.eof a.offset) refl
    where
      by : (t : Bool) → is_outside f.eof a.offset ≡ t → is_whole (written (regions_reply v f input room)) ≡ true
      by true e = ap (λ (r : Reply). is_whole (written r)) (reply-none v f input room p e)
      by false e = ap is_whole (given e) ∙ whole_back (length all) all (omega (arith, few f.eof f.valid a))

  reply-tiles : (byte : ℕ) → usages_in (written (regions_reply v f input room)) byte ≡ usages_due f a byte
  reply-tiles byte = by (is_outside f.eof a.offset) refl
    where
      by : (t : Bool) → is_outside f.eof a.offset ≡ t → usages_in (written (regions_reply v f input room)) byte ≡ usages_due f a byte
      by true e =
          ap (λ (r : Reply). usages_in (written r) byte) (reply-none v f input room p e)
          ∙ none_in byte ∙ sym (none-due f a (outside-past f.eof a.offset e) byte)
      by false e =
          ap (λ (rs : List Region). usages_of rs byte) (regions-in e) ∙ regions-tile f a sizes.0 (inside f.eof a.offset e) byte

  reply-empty : f.eof ≡ 0 → a.offset ≡ 0 → regions_in (written (regions_reply v f input room)) ≡ region 0 0 0 ∷ []
  unfolding is_outside first_region second_due
  reply-empty h k =
      let z : f.valid ≡ 0 = omega (arith, sizes.0) in
      let m : min a.length 0 ≡ 0 = omega arith in
      let o : is_outside f.eof a.offset ≡ false = rw (h, k) in
      let q : all ≡ region 0 0 0 ∷ [] = rw (h, k, z, m) in
      regions-in o ∙ q

  tiled : Tiled f a (written (regions_reply v f input room))
  tiled =
      record {
        whole = reply-whole;
        tiles = reply-tiles;
        outside = λ h byte. reply-tiles byte ∙ none-due f a h byte;
        empty = reply-empty;
        none = λ h k. ap written (reply-none v f input room p (past-outside f.eof a.offset h k));
      }

pub tiles : Tiles
tiles v f input room b s = tiled v f input room (usage-narrow input b) s

-- ---- two calls for one

-- below m, up to m is no limit
below-min : (byte m e : ℕ) → byte < m → ltb byte (min m e) ≡ ltb byte e
below-min byte m e h = by (ltb byte e) refl
  where
    by : (t : Bool) → ltb byte e ≡ t → ltb byte (min m e) ≡ t
    by true k = let l : byte < e = ltb-true _ _ k in lt-ltb byte (min m e) (omega arith)
    by false k = let l : e ≤ byte = ltb-false _ _ k in le-ltb byte (min m e) (omega arith)

-- what is due of the parts is due of the whole
due-splits : (f : FileRecord) (a : Asked) (m byte : ℕ) → a.offset < m → m < a.offset + a.length
    → usages_due f (first_part a m) byte ++ usages_due f (second_part a m) byte ≡ usages_due f a byte
unfolding usages_due is_asked usage_due
due-splits f a m byte h k = by (ltb byte m) refl
  where
    mid : (first_part a m).offset + (first_part a m).length ≡ m
    mid = omega arith

    last : (second_part a m).offset + (second_part a m).length ≡ a.offset + a.length
    last = omega arith

    by : (t : Bool) → ltb byte m ≡ t → usages_due f (first_part a m) byte ++ usages_due f (second_part a m) byte ≡ usages_due f a byte
    by true e =
        let l : byte < m = ltb-true byte m e in
        rw (
          mid,
          last,
          lt-leb (second_part a m).offset byte (omega arith),
          below-min byte m f.eof l,
          below-min byte (a.offset + a.length) f.eof (omega arith),
          append-nil _,
        )
    by false e =
        let l : m ≤ byte = ltb-false byte m e in
        rw (mid, last, le-leb (second_part a m).offset byte (omega arith), le-leb a.offset byte (omega arith), le-ltb byte (min m f.eof) (omega arith))

-- with room for two regions a call that has passed its checks succeeds
succeeds : (v : Volume) (f : FileRecord) (input : List ℕ) (room : ℕ) → Passed v f input room → 64 ≤ room → Succeeds (regions_reply v f input room)
succeeds v f input room p h = by (is_outside f.eof (asked_of input).offset) refl
  where
    by : (t : Bool) → is_outside f.eof (asked_of input).offset ≡ t → Succeeds (regions_reply v f input room)
    by true e = ap (λ (r : Reply). (answer r).status) (reply-none v f input room p e)
    by false e =
        let all = regions_of f.eof f.valid (asked_of input) in
        ap (λ (r : Reply). (answer r).status) (reply-is v f input room p e ∙ all-given all room (omega (arith, few f.eof f.valid (asked_of input))))

module _ (v : Volume) (f : FileRecord) (room : ℕ) (h : 64 ≤ room) where
  -- what one who asked for a range learns from a success
  asked-passed : (input : List ℕ) (a : Asked) → Asks input a → Succeeds (regions_reply v f input room)
      → Passed v f input room × (0 < a.length) × (a.offset + a.length < 2 ^ 63) × (eqb (a.usage % 2) 1 ≡ true)
  asked-passed input a q s =
      let p = success-passed v f input room s in
      let k = asked-facts a (sym (ap asked_check q.range) ∙ p.asked) in
      (p, k.0, k.1, k.2)

  -- a range that passes its checks succeeds if another did
  asked-succeeds : (input : List ℕ) (a : Asked) {other : List ℕ} → Asks input a → Passed v f other room → asked_check a ≡ None
      → Succeeds (regions_reply v f input room)
  asked-succeeds input a q p e =
      succeeds v f input room (record { has = p.has; sizes = p.sizes; long = q.long; asked = ap asked_check q.range ∙ e; space = p.space }) h

  asked-tiled : (input : List ℕ) (a : Asked) → Asks input a → Succeeds (regions_reply v f input room) → Tiled f a (written (regions_reply v f input room))
  asked-tiled input a q s = subst (λ (x : Asked). Tiled f x (written (regions_reply v f input room))) q.range (tiles v f input room q.bytes s)

module _ (v : Volume) (f : FileRecord) (a : Asked) (m room : ℕ) (whole first second : List ℕ)
    (w : Asks whole a) (x : Asks first (first_part a m)) (y : Asks second (second_part a m))
    (h : 64 ≤ room) (k : a.offset < m) (l : m < a.offset + a.length) where
  apart : Succeeds (regions_reply v f whole room) → Succeeds (regions_reply v f first room) × Succeeds (regions_reply v f second room)
  apart s =
      let p = asked-passed v f room h whole a w s in (
        asked-succeeds v f room h first (first_part a m) x p.0 (asked-passes (first_part a m) (omega arith) (omega (arith, p.2)) p.3),
        asked-succeeds v f room h second (second_part a m) y p.0 (asked-passes (second_part a m) (omega arith) (omega (arith, p.2)) p.3),
      )

  together : Succeeds (regions_reply v f first room) → Succeeds (regions_reply v f second room) → Succeeds (regions_reply v f whole room)
  together s t =
      let q = asked-passed v f room h second (second_part a m) y t in
      asked-succeeds v f room h whole a w q.0 (asked-passes a (omega arith) (omega (arith, q.2)) q.3)

  same : Succeeds (regions_reply v f whole room) → (byte : ℕ)
      → usages_in (written (regions_reply v f first room)) byte ++ usages_in (written (regions_reply v f second room)) byte
      ≡ usages_in (written (regions_reply v f whole room)) byte
  same s byte =
      ap₂ (λ (b c : List ℕ). b ++ c) ((asked-tiled v f room h first (first_part a m) x (apart s).0).tiles byte)
      ((asked-tiled v f room h second (second_part a m) y (apart s).1).tiles byte)
      ∙ due-splits f a m byte k l
      ∙ sym ((asked-tiled v f room h whole a w s).tiles byte)

  past : Succeeds (regions_reply v f whole room) → f.eof ≤ m
      → (written (regions_reply v f second room) ≡ []) × ((byte : ℕ) → usages_in (written (regions_reply v f second room)) byte ≡ [])
  past s e = let t = asked-tiled v f room h second (second_part a m) y (apart s).1 in (t.none e (omega arith), t.outside e)

pub split : Split
split v f a m room whole first second w x y h k l =
    let r : 64 ≤ room = omega arith in
    record {
      apart = apart v f a m room whole first second w x y r k l;
      together = together v f a m room whole first second w x y r k l;
      same = same v f a m room whole first second w x y r k l;
      past = past v f a m room whole first second w x y r k l;
    }
