-- What a push record says, by the list of its bytes.
use Rattle.std.specs.Prelude.{◌≡◌, ℕ, ◌+◌, ◌*◌, ◌≤◌, Bool, cond, ◌&&◌, List, [], ◌∷◌, map, length, drop, ℤ, Ok, Err, Result, FitsSigned, ◌==◌, codes, nat_lt, slice_index}
use Rattle.std.specs.Int.{w32}
use Rattle.std.proofs.Common.{of_z}
use Rattle.std.specs.List.{AllByRecursion}
use Rattle.packing.specs.Packing.{cells_of, words_bytes}
use Rattle.live_host.specs.declared.record.PushRecord.{PushRecord}
use Rattle.live_host.specs.declared.record.FactsLeft.{FactsLeft}
use Rattle.live_host.specs.declared.record.RecordFault.{RecordFault}
use Rattle.live_host.specs.declared.record.RecordFault.TheVariants.{Short, Mark, Version, TooManyFacts, Length}

abbrev pub number_of : RecordFault → ℕ
number_of Short = 13
number_of Mark = 11
number_of Version = 12
number_of TooManyFacts = 13
number_of Length = 13

-- what the fault means, for who reads it
abbrev pub words_of : RecordFault → List ℕ
words_of Short = codes "it is shorter than the header of 6 bytes"
words_of Mark = codes "it does not begin with PSH"
words_of Version = codes "its version is not 1"
words_of TooManyFacts = codes "it says that it has over 64 facts"
words_of Length = codes "it is not as long as its fact count says"

-- the bytes P, S, H
abbrev pub marked : List ℕ → Bool
marked bytes = slice_index bytes 0 == 80 && (slice_index bytes 1 == 83 && slice_index bytes 2 == 72)

-- two bytes, the low one first
abbrev pub version : List ℕ → ℕ
version bytes = slice_index bytes 3 + slice_index bytes 4 * 256

-- how many facts the record says it has
abbrev pub told_count : List ℕ → ℕ
told_count bytes = slice_index bytes 5

-- the bytes of the facts: under 6 bytes, mark, version, over 64 facts, length, in this order
abbrev pub body : List ℕ → Result (List ℕ) RecordFault
body bytes =
    cond (nat_lt (length bytes) 6) (Err Short) (cond (marked bytes) (cond (version bytes == 1) (cond (nat_lt 64 (told_count bytes)) (Err TooManyFacts)
    (cond (length bytes == 6 + 4 * told_count bytes) (Ok (drop 6 bytes)) (Err Length))) (Err Version)) (Err Mark))

-- the bytes of a record with these facts
abbrev pub record_bytes : List ℤ → List ℕ
record_bytes facts = 80 ∷ 83 ∷ 72 ∷ 1 ∷ 0 ∷ length facts ∷ words_bytes (map (of_z w32) facts)

-- the facts of a record that was read, at most 64 by its type
abbrev pub facts_of : PushRecord → List ℤ
facts_of r = cells_of r.numbers.now

-- the facts of a record that are still to come
abbrev pub facts_left : FactsLeft → List ℤ
facts_left r = cells_of r.numbers.now

-- a refused record has no facts
abbrev pub facts_or_none : Result (List ℕ) RecordFault → List ℤ
facts_or_none (Ok numbers) = cells_of numbers
facts_or_none (Err fault) = []

abbrev pub facts_in : List ℕ → List ℤ
facts_in bytes = facts_or_none (body bytes)

-- what a reading gave, by its bytes
abbrev pub read : Result PushRecord RecordFault → Result (List ℕ) RecordFault
read (Ok r) = Ok r.numbers.now
read (Err fault) = Err fault

-- every list of at most 64 facts can be sent: its record is accepted, and has these facts
abbrev pub Sent : Type 0
Sent = (facts : List ℤ) → length facts ≤ 64 → AllByRecursion (FitsSigned w32) facts → facts_in (record_bytes facts) ≡ facts
