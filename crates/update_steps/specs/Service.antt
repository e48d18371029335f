-- The reads of a service that follows a journal.
use Rattle.std.specs.Prelude.{cond, List, [], ◌∷◌, ℕ, zero, suc, leb, eqb, length}
use Rattle.le.specs.Numbers.{encode, number_at}
use Rattle.status.specs.Reply.{Reply, refuse, give}
use Rattle.volume.specs.declared.Volume.{Volume}
use Rattle.journal_read.specs.Read.{read_reply}

-- the input of a read of journal `id` from `start` on: StartUsn, ReasonMask with 20 bytes of zeroes behind it, the journal's id
abbrev pub input_of : ℕ → ℕ → ℕ → List ℕ
input_of id start mask = encode (8 ∷ 24 ∷ 8 ∷ []) (start ∷ mask ∷ id ∷ [])

-- the reply, with so much room
abbrev pub reply_from : Volume → List ℕ → ℕ → ℕ → ℕ → ℕ → Reply
reply_from v ring id start mask room = read_reply v ring (input_of id start mask) room

-- the position that a reply gives; a refusal leaves the reader at `start`
unfoldable pub position_in : ℕ → Reply → ℕ
position_in start (refuse x) = start
position_in start (give x bytes) = cond (leb 8 (length bytes)) (number_at bytes 0 8) start

-- where a read of all records from `start` on, with room for two, leaves the reader
unfoldable pub read_to : Volume → List ℕ → ℕ → ℕ → ℕ
read_to v ring id start = position_in start (reply_from v ring id start 0xFFFFFFFF 160)

-- where n reads leave it at most: none is made at the journal's end
unfoldable pub reads_to : ℕ → Volume → List ℕ → ℕ → ℕ → ℕ
reads_to zero v ring id start = start
reads_to (suc n) v ring id start = cond (eqb start v.last) start (reads_to n v ring id (read_to v ring id start))
