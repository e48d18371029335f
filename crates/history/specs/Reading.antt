-- A reader: any choice of a list's reads that carry its position, mask and only-on-close flag.
use Rattle.std.specs.Prelude.{◌≡◌, true, cond, List, [], ◌∷◌, ◌++◌, map, ℕ, eqb, drop}
use Rattle.status.specs.Number.{number}
use Rattle.status.specs.Reply.{Reply, refuse, give}
use Rattle.usn_record.specs.declared.Version.{Version}
use Rattle.usn_record.specs.Layout.{Record, in_version}
use Rattle.records.specs.Records.{joined, all_shown}
use Rattle.reply_walker.specs.Reply.{position_of}
use Rattle.journal_page.specs.declared.Filter.{Filter}
use Rattle.journal_read.specs.Input.{start_of, filter_of, version_of}
use Rattle.journal_post.specs.Posts.{Journal}
use Rattle.history.specs.Calls.{Read, Call, read, reply_to, next}

-- a SUCCESS reply as the reader has it: the version asked for, and all of the reply's bytes
pub record Received : Type 0 where
  pub version : Version
  pub bytes : List ℕ

pub record Reader : Type 0 where
  pub start : ℕ
  pub filter : Filter
  pub position : ℕ
  pub handed : List Received

abbrev pub fresh : ℕ → Filter → Reader
fresh start f = record { start = start; filter = f; position = start; handed = [] }

-- the reader once a reply has come: it stands at the reply's position and has its records
abbrev pub advanced : Read → List ℕ → Reader → Reader
advanced a bytes d =
    record {
      start = d.start;
      filter = d.filter;
      position = position_of bytes;
      handed = d.handed ++ (record { version = version_of a.input; bytes = bytes } ∷ []);
    }

-- only a SUCCESS reply moves it or hands it anything
abbrev pub told : Read → Reply → Reader → Reader
told a (refuse x) d = d
told a (give x bytes) d = cond (eqb (number x) 0) (advanced a bytes d) d

-- a call of the list, with the choice whether it is this reader's
pub data Turn : Type 0 where
  mine : Read → Turn
  other : Call → Turn

abbrev pub call_of : Turn → Call
call_of (mine a) = read a
call_of (other c) = c

-- the reader after a turn, and after all of them
abbrev pub hears : Journal → Reader → Turn → Reader
hears j d (mine a) = told a (reply_to j a) d
hears j d (other c) = d

abbrev pub follow : Journal → Reader → List Turn → Reader
follow j d [] = d
follow j d (t ∷ ts) = follow (next j (call_of t)) (hears j d t) ts

-- two filters with one mask, of which both or neither ask for closes only
abbrev pub Alike : Filter → Filter → Type 0
Alike f g = (f.mask ≡ g.mask) × (eqb f.close 0 ≡ eqb g.close 0)

-- a read carries the reader's position, mask and only-on-close flag
abbrev pub Carries : Reader → Read → Type 0
Carries d a = (start_of a.input ≡ d.position) × Alike (filter_of a.input) d.filter

abbrev pub Own : Reader → Turn → Type 0
Own d (mine a) = Carries d a
Own d (other c) = Unit {0}

-- each read of its choice does
abbrev pub Chosen : Journal → Reader → List Turn → Type 0
Chosen j d [] = Unit {0}
Chosen j d (t ∷ ts) = Own d t × Chosen (next j (call_of t)) (hears j d t) ts

-- the replies hold, behind their positions, exactly these records, in this order, each byte for byte its layout in the reply's version, which
-- shows its ids
abbrev pub Hold : List Received → List Record → Type 0
Hold [] rs = rs ≡ []
Hold (s ∷ ss) rs =
    (here : List Record)
    × (later : List Record)
    × (rs ≡ here ++ later)
    × (all_shown s.version here ≡ true)
    × (drop 8 s.bytes ≡ joined (map (in_version s.version) here))
    × Hold ss later
