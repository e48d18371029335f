-- The row that is written of a record, read back; and what is taken as a reply is added.
-- Assumes nothing.
use mathlib.Core.Path.{◌≡◌, refl, sym, ap, ap₂, ◌∙◌, subst}
use mathlib.Core.Bool.{true, false}
use mathlib.Core.List.{List, [], ◌∷◌, ◌++◌, append_assoc, append-nil}
use Rattle.std.specs.Prelude.{Some, Result, Ok}
use Prim.Native.Nat.{ℕ, ◌+◌, ◌-◌, ◌*◌, ◌%◌, ◌^◌, ◌≤◌, ◌<◌}
use native.Mathlib.Omega.{arith}
use lib.Dec.{eqb}
use lib.ListN.{length, take, drop, get_or, length-append}
use lib.Seq.{take_at, drop_at}
use Rattle.le.specs.Numbers.{le, number_at, encode, decode, total}
use Rattle.le.proofs.Numbers.{length-le, length_two, length-encode, decode-encode}
use Rattle.le.proofs.Places.{field_at}
use Rattle.le.proofs.Tail.{put_first, put_next, lent, back}
use Rattle.file_ids.specs.Ids.{Id, id_number}
use Rattle.usn_record.specs.declared.Fields.{Fields}
use Rattle.usn_record.specs.Layout.{Record, length_of}
use Rattle.record_reader.specs.declared.Entry.{Entry}
use Rattle.record_reader.specs.Read.{parse, entry_of}
use Rattle.records.specs.Records.{whole, record_list, records, Records, bad}
use Rattle.records.proofs.Runs.{tail-cons, tail-nil}
use Rattle.usn_listing.specs.Listing.{is_whole}
use Rattle.usn_listing.proofs.Writing.{same_back}
use Rattle.usn_listing.proofs.Listing.{part, Met, lines_start}
use Rattle.usnpaths.specs.declared.table.Extent.{Extent}
use Rattle.usnpaths.specs.declared.table.Unfit.{Unfit}
use Rattle.usnpaths.specs.Rows.{row_of, rows_of, names_of, added_of, Holds, Inside, AddedInside, reply_added}
use Rattle.usnpaths.proofs.Adding.{rows_more, names_more, added_none, added_more}
use Rattle.file_table.specs.Table.{Row, row_in, rows as table-rows}
use Rattle.reply_walker.specs.Reply.{records_of}

-- ---- a row

pub ids-out : (id parent o l₁ l₂ : List ℕ) → Id id → Id parent → 32 ≤ length o → l₁ ≡ id ++ drop (length id) o
    → l₂ ≡ parent ++ drop (length parent) (lent 16 l₁) → back 16 l₁ l₂ ≡ (id ++ parent) ++ drop 32 o
ids-out id parent o l₁ l₂ d e h q₁ q₂ =
    let a : l₁ ≡ id ++ drop 16 o = q₁ ∙ ap (λ (n : ℕ). id ++ drop n o) d.size in
    let b : l₂ ≡ parent ++ drop 16 (lent 16 l₁) = q₂ ∙ ap (λ (n : ℕ). parent ++ drop n (lent 16 l₁)) e.size in
    (put_next (put_first 16 id o l₁ d.size a) 16 parent l₂ e.size h b).whole

-- the widths and values of the numbers
abbrev sizes : List ℕ
sizes = 8 ∷ 4 ∷ 4 ∷ 8 ∷ []

abbrev numbers : ℕ → ℕ → ℕ → ℕ → List ℕ
numbers usn attributes size place = usn ∷ attributes ∷ size ∷ place ∷ []

length-numbers : (usn attributes size place : ℕ) → length (encode sizes (numbers usn attributes size place)) ≡ 24
unfolding total
length-numbers usn attributes size place = length-encode sizes (numbers usn attributes size place) (omega arith)

module _ (usn attributes size place : ℕ) where
  pub numbers-out : (o l₁ l₂ l₃ : List ℕ) → 24 ≤ length o → l₁ ≡ le 8 usn ++ drop 8 o
      → l₂ ≡ encode (4 ∷ 4 ∷ []) (attributes ∷ size ∷ []) ++ drop 8 (lent 8 l₁)
      → l₃ ≡ le 8 place ++ drop 8 (lent 16 (back 8 l₁ l₂))
      → back 16 (back 8 l₁ l₂) l₃ ≡ encode sizes (numbers usn attributes size place) ++ drop 24 o
  unfolding encode
  numbers-out o l₁ l₂ l₃ h q₁ q₂ q₃ =
      let p₁ = put_first 8 (le 8 usn) o l₁ (length-le 8 usn) q₁ in
      let p₂ = put_next p₁ 8 (encode (4 ∷ 4 ∷ []) (attributes ∷ size ∷ [])) l₂ (length_two 4 attributes size) (omega arith) q₂ in
      (put_next p₂ 8 (le 8 place) l₃ (length-le 8 place) h q₃).whole ∙ simp (append_assoc, append-nil)

  module _ (fu : usn < 256 ^ 8) (fa : attributes < 256 ^ 4) (fs : size < 256 ^ 4) (fp : place < 256 ^ 8) (id parent t : List ℕ) (d : Id id) (e : Id parent) where
    bytes : List ℕ
    bytes = (id ++ parent) ++ (encode sizes (numbers usn attributes size place) ++ t)

    two : length (id ++ parent) ≡ 32
    two = length-append id parent ∙ omega (arith, d.size, e.size)

    behind : decode sizes (drop 32 bytes) ≡ numbers usn attributes size place
    unfolding bytes
    behind =
        ap (decode sizes) (drop_at (id ++ parent) (encode sizes (numbers usn attributes size place) ++ t) 32 two)
        ∙ decode-encode sizes (numbers usn attributes size place) t (fu, (fa, (fs, (fp, tt))))

    number : (i : ℕ) → i < 4 → number_at bytes (32 + total (take i sizes)) (get_or sizes i 0) ≡ get_or (numbers usn attributes size place) i 0
    number i h = sym (field_at sizes bytes 32 i h) ∙ ap (λ (l : List ℕ). get_or l i 0) behind

    first : take 16 bytes ≡ id
    unfolding bytes
    first = rw append_assoc (take_at id _ 16 d.size)

    second : take 16 (drop 16 bytes) ≡ parent
    unfolding bytes
    second = rw (append_assoc, drop_at id _ 16 d.size) (take_at parent _ 16 e.size)

    read : row_in bytes ≡ record { id = id; parent = parent; usn = usn; attributes = attributes; length = size; place = place }
    unfolding total
    read =
        let a : number_at bytes 32 8 ≡ usn = number 0 (omega arith) in
        let b : number_at bytes 40 4 ≡ attributes = number 1 (omega arith) in
        let c : number_at bytes 44 4 ≡ size = number 2 (omega arith) in
        let f : number_at bytes 48 8 ≡ place = number 3 (omega arith) in
        rw (first, second, a, b, c, f)

    -- the row that stands at the start of what was written reads so, and what is behind it stays
    pub row_out : (o l₁ l₂ : List ℕ) → 56 ≤ length o → t ≡ drop 56 o → l₁ ≡ (id ++ parent) ++ drop 32 o
        → l₂ ≡ encode sizes (numbers usn attributes size place) ++ drop 24 (lent 32 l₁)
        → (row_in (back 32 l₁ l₂) ≡ record { id = id; parent = parent; usn = usn; attributes = attributes; length = size; place = place }) × (drop 56 (back 32 l₁ l₂) ≡ drop 56 o)
    unfolding bytes
    row_out o l₁ l₂ h z q₁ q₂ =
        let n : length (encode sizes (numbers usn attributes size place)) ≡ 24 = length-numbers usn attributes size place in
        let p = put_next (put_first 32 (id ++ parent) o l₁ two q₁) 24 (encode sizes (numbers usn attributes size place)) l₂ n h q₂ in
        let w : back 32 l₁ l₂ ≡ bytes = p.whole ∙ append_assoc (id ++ parent) (encode sizes (numbers usn attributes size place)) (drop 56 o) ∙ ap (λ (l : List ℕ). (id ++ parent) ++ (encode sizes (numbers usn attributes size place) ++ l)) (sym z) in
        (ap row_in w ∙ read, ap (drop 56) p.whole ∙ drop_at ((id ++ parent) ++ encode sizes (numbers usn attributes size place)) (drop 56 o) 56 p.size)

-- an id is compared with the last of 64 bits by its number
pub last-test : (k n : ℕ) → k ≡ n → eqb k (2 ^ 64 - 1 + 2 ^ 64 * 0) ≡ eqb n (2 ^ 64 - 1)
last-test k n e = rw e

-- ---- a reply

-- the records of a reply
abbrev pub all : List ℕ → List Record
all s = record_list (records 8 (drop 8 s))

-- the records before `at` are added: what is taken lies inside, the rest are whole, and with their rows and names table and pool would hold all
pub record Filled (table₀ pool₀ : List ℕ) (e : Extent) (s table pool : List ℕ) (at rows names : ℕ) : Type 0 where
  pub inside : at ≤ length s
  pub same-table : length table ≡ length table₀
  pub same-pool : length pool ≡ length pool₀
  pub rows_inside : rows ≤ length table₀
  pub names-inside : names ≤ length pool₀
  pub whole_row : rows % 56 ≡ 0
  pub rest : List Record
  pub onward : records at (drop at s) ≡ whole rest
  pub result : added_of (length table₀) (length pool₀) 8 e (all s) ≡ added_of (length table₀) (length pool₀) at (record { rows = rows; names = names }) rest
  pub held : table-rows (take rows table) ++ rows_of names rest ≡ table-rows (take e.rows table₀) ++ rows_of e.names (all s)
  pub named : take names pool ++ names_of rest ≡ take e.names pool₀ ++ names_of (all s)

pub filled-start : (table pool s : List ℕ) (x : Extent) → is_whole (records 8 (drop 8 s)) ≡ true → 8 ≤ length s
    → Inside (length table) (length pool) x.rows x.names → Filled table pool x s table pool 8 x.rows x.names
filled-start table pool s x e h i =
    let u = lines_start [] s 8 e h in
    let q : u.rest ≡ all s = sym (ap record_list u.onward) in
    record {
      result = ap (added_of (length table) (length pool) 8 x) (sym q);
      held = ap (λ (rs : List Record). table-rows (take x.rows table) ++ rows_of x.names rs) q;
      named = ap (λ (rs : List Record). take x.names pool ++ names_of rs) q;
      inside = h;
      same-table = refl;
      same-pool = refl;
      rows_inside = i.0;
      names-inside = i.1;
      whole_row = i.2;
      rest = u.rest;
      onward = u.onward;
    }

rows-of : (place : ℕ) (r : Record) (rs : List Record) → rows_of place (r ∷ rs) ≡ row_of r.fields (length r.name) place ∷ rows_of (place + length r.name) rs
unfolding rows_of
rows-of place r rs = refl

names-of : (r : Record) (rs : List Record) → names_of (r ∷ rs) ≡ r.name ++ names_of rs
unfolding names_of
names-of r rs = refl

-- the place behind the record of a turn
pub met_next : (s : List ℕ) (at : ℕ) (rest : List Record) (x : Entry) → at < length s → records at (drop at s) ≡ whole rest → (m : Met s at rest x) → ((q : Record) → parse (drop at s) ≡ Some q → x ≡ entry_of at q)
    → x.next ≡ at + length_of m.first
met_next s at rest x h e m k =
    let t = tail-cons s at rest h e in
    let r : t.0 ≡ m.first = same_first (sym t.4 ∙ m.split) in
    ap (λ (y : Entry). y.next) (k t.0 t.2) ∙ ap (λ (q : Record). at + length_of q) r
  where
    same_first : {a b : Record} {xs ys : List Record} → a ∷ xs ≡ b ∷ ys → a ≡ b
    same_first q = cc

-- what becomes of the record of a turn and the rest
pub met-result : (table₀ pool₀ s table pool : List ℕ) (at rows names : ℕ) (e : Extent) (x : Entry) (u : Filled table₀ pool₀ e s table pool at rows names) (m : Met s at u.rest x)
    → added_of (length table₀) (length pool₀) 8 e (all s) ≡ added_of (length table₀) (length pool₀) at (record { rows = rows; names = names }) (m.first ∷ m.more)
met-result table₀ pool₀ s table pool at rows names e x u m = u.result ∙ ap (added_of (length table₀) (length pool₀) at (record { rows = rows; names = names })) m.split

-- a name's bytes
pub met-length : (s : List ℕ) (at : ℕ) (rest : List Record) (x : Entry) (m : Met s at rest x) → length m.first.name ≡ x.length
met-length s at rest x m = ap length (sym m.name) ∙ m.size

pub filled_more : (table₀ pool₀ s table pool last₁ last₂ : List ℕ) (at rows names : ℕ) (b : Extent) (x : Entry) (u : Filled table₀ pool₀ b s table pool at rows names)
    → (m : Met s at u.rest x) → x.next ≡ at + length_of m.first → eqb (id_number m.first.fields.file) (2 ^ 64 - 1) ≡ false → 56 ≤ length table - rows → x.length ≤ length pool - names
    → length last₁ ≡ length (lent rows table) → length last₂ ≡ length (lent names pool)
    → row_in last₁ ≡ row_of x.fields x.length names → last₂ ≡ part s x ++ drop (length (part s x)) (lent names pool)
    → Filled table₀ pool₀ b s (back rows table last₁) (back names pool last₂) x.next (rows + 56) (names + x.length)
filled_more table₀ pool₀ s table pool last₁ last₂ at rows names b x u m z t h k e₁ e₂ w v =
    let n : length m.first.name ≡ x.length = met-length s at u.rest x m in
    let T : ℕ = length table₀ in
    let P : ℕ = length pool₀ in
    let st : 56 ≤ T - rows = omega (arith, h, u.same-table) in
    let sp : length m.first.name ≤ P - names = omega (arith, k, u.same-pool, n) in
    let row : row_in last₁ ≡ row_of m.first.fields (length m.first.name) names = w ∙ ap₂ (λ (f : Fields) (l : ℕ). row_of f l names) m.fields (sym n) in
    record {
      result =
          met-result table₀ pool₀ s table pool at rows names b x u m ∙ added_more T P at (record { rows = rows; names = names }) m.first m.more t st sp
          ∙ ap₂ (λ (p l : ℕ). added_of T P p (record { rows = rows + 56; names = names + l }) m.more) (sym z) n;
      held = more_rows row n;
      named = more-names n;
      inside = m.inside;
      same-table = (same_back rows 0 0 table₀ table last₁ u.same-table e₁).0;
      same-pool = (same_back names 0 0 pool₀ pool last₂ u.same-pool e₂).0;
      rows_inside = omega arith;
      names-inside = omega arith;
      whole_row = omega arith;
      rest = m.more;
      onward = m.onward;
    }
  where
    more_rows : row_in last₁ ≡ row_of m.first.fields (length m.first.name) names → length m.first.name ≡ x.length
        → table-rows (take (rows + 56) (back rows table last₁)) ++ rows_of (names + x.length) m.more ≡ table-rows (take b.rows table₀) ++ rows_of b.names (all s)
    more_rows row n =
        ap (λ (l : List Row). l ++ rows_of (names + x.length) m.more) (rows_more table last₁ rows u.whole_row (omega arith) e₁)
        ∙ append_assoc (table-rows (take rows table)) (row_in last₁ ∷ []) (rows_of (names + x.length) m.more)
        ∙ ap₂ (λ (r : Row) (l : ℕ). table-rows (take rows table) ++ (r ∷ rows_of (names + l) m.more)) row (sym n)
        ∙ ap (λ (l : List Row). table-rows (take rows table) ++ l) (sym (rows-of names m.first m.more))
        ∙ ap (λ (rs : List Record). table-rows (take rows table) ++ rows_of names rs) (sym m.split) ∙ u.held

    more-names : length m.first.name ≡ x.length → take (names + x.length) (back names pool last₂) ++ names_of m.more ≡ take b.names pool₀ ++ names_of (all s)
    more-names n =
        ap (λ (l : List ℕ). l ++ names_of m.more) (names_more pool last₂ (part s x) names x.length (omega arith) m.size v)
        ∙ append_assoc (take names pool) (part s x) (names_of m.more) ∙ ap (λ (l : List ℕ). take names pool ++ (l ++ names_of m.more)) m.name
        ∙ ap (λ (l : List ℕ). take names pool ++ l) (sym (names-of m.first m.more))
        ∙ ap (λ (rs : List Record). take names pool ++ names_of rs) (sym m.split) ∙ u.named

-- where no record is left, all are added
pub filled-end : (table₀ pool₀ s table pool : List ℕ) (at rows names : ℕ) (e : Extent) → Filled table₀ pool₀ e s table pool at rows names → length s ≤ at
    → let r : Result Extent Unfit = Ok (record { rows = rows; names = names }) in
    (r ≡ added_of (length table₀) (length pool₀) 8 e (all s)) × Holds table₀ pool₀ e (all s) table pool r × AddedInside (length table₀) (length pool₀) r
unfolding rows_of names_of
filled-end table₀ pool₀ s table pool at rows names e u h =
    let z : u.rest ≡ [] = tail-nil s at u.rest h u.onward in
    let x : Extent = record { rows = rows; names = names } in (
      sym (u.result ∙ ap (added_of (length table₀) (length pool₀) at x) z ∙ added_none (length table₀) (length pool₀) at x),
      (
        sym (ap (λ (rs : List Record). table-rows (take rows table) ++ rows_of names rs) z ∙ append-nil (table-rows (take rows table))) ∙ u.held,
        sym (ap (λ (rs : List Record). take names pool ++ names_of rs) z ∙ append-nil (take names pool)) ∙ u.named,
      ),
      (u.rows_inside, u.names-inside, u.whole_row),
    )

-- a reply that is whole
pub whole-added : (table pool s after names : List ℕ) (e : Extent) (r : Result Extent Unfit) → is_whole (records_of s) ≡ true
    → records_of s ≡ records 8 (drop 8 s)
    → (r ≡ added_of (length table) (length pool) 8 e (all s)) × Holds table pool e (all s) after names r × AddedInside (length table) (length pool) r
    → (r ≡ reply_added (length table) (length pool) e (records_of s)) × Holds table pool e (record_list (records_of s)) after names r × AddedInside (length table) (length pool) r
whole-added table pool s after names e r w q t =
    let a : all s ≡ record_list (records_of s) = ap record_list (sym q) in (
      t.0 ∙ ap (added_of (length table) (length pool) 8 e) a ∙ same (records_of s) w,
      subst (λ (rs : List Record). Holds table pool e rs after names r) a t.1,
      t.2,
    )
  where
    same : (q : Records) → is_whole q ≡ true → added_of (length table) (length pool) 8 e (record_list q) ≡ reply_added (length table) (length pool) e q
    same (whole rs) w = refl
    same (bad place) w = let z : ◌≡◌ {A = ℕ} 0 1 = cc in absurd (omega arith)

-- what is taken once all of a reply is added
pub taken-inside : (table pool : ℕ) (r : Result Extent Unfit) (e : Extent) → r ≡ Ok e → AddedInside table pool r → Inside table pool e.rows e.names
taken-inside table pool r e q i = rw q at i
