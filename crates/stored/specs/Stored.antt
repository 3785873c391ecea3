-- A rule as bytes: NSC, then version, words, globals and entry in two bytes each, then four bytes a word, all with the low byte first.
use Rattle.std.specs.Prelude.{ℕ, ◌+◌, ◌*◌, ◌/◌, ◌%◌, Bool, cond, ◌&&◌, List, [], ◌∷◌, ◌++◌, length, drop, Ok, Err, Result, ◌==◌, nat_le, nat_lt, codes, slice_index}
use Rattle.packing.specs.Packing.{words_bytes, words_in}
use Rattle.stored.specs.declared.rule.LoadFault.{LoadFault}
use Rattle.stored.specs.declared.rule.LoadFault.TheVariants.{Short, Mark, Version, TooManyWords, Length, NoRoom}
use Rattle.stored.specs.declared.rule.RuleHeader.{RuleHeader}
use Rattle.stored.specs.declared.rule.StoreFault.{StoreFault}
use Rattle.stored.specs.declared.rule.StoreFault.TheVariants as store_fault

abbrev pub load_number : LoadFault → ℕ
load_number Short = 13
load_number Mark = 11
load_number Version = 12
load_number TooManyWords = 13
load_number Length = 13
load_number NoRoom = 18

abbrev pub load_words : LoadFault → List ℕ
load_words Short = codes "it is shorter than the header of 11 bytes"
load_words Mark = codes "it does not begin with NSC"
load_words Version = codes "its version is not 1"
load_words TooManyWords = codes "it says that it has over 8,192 words"
load_words Length = codes "it is not as long as its word count says"
load_words NoRoom = codes "its words do not fit the buffer"

-- the number in two bytes, and its bytes
abbrev pub half_at : List ℕ → ℕ → ℕ
half_at bs k = slice_index bs k + slice_index bs (k + 1) * 256

abbrev pub half_bytes : ℕ → List ℕ
half_bytes n = (n % 256) ∷ (n / 256 % 256) ∷ []

abbrev pub is_marked : List ℕ → Bool
is_marked bs = slice_index bs 0 == 78 && (slice_index bs 1 == 83 && slice_index bs 2 == 67)

-- what stands behind the mark: version, then the header, then the words
abbrev pub counted : List ℕ → RuleHeader
counted rest = record { words = half_at rest 2; globals = half_at rest 4; entry = half_at rest 6 }

abbrev pub counts_in : List ℕ → Result RuleHeader LoadFault
counts_in rest =
    cond (half_at rest 0 == 1)
    (cond (nat_le (half_at rest 2) 8192)
    (cond (length rest == 8 + 4 * half_at rest 2) (Ok (counted rest)) (Err Length))
    (Err TooManyWords))
    (Err Version)

abbrev pub header_in : List ℕ → Result RuleHeader LoadFault
header_in bs = cond (nat_lt (length bs) 11) (Err Short) (cond (is_marked bs) (counts_in (drop 3 bs)) (Err Mark))

pub record Rule : Type 0 where
  pub globals : ℕ
  pub entry : ℕ
  pub words : List ℕ

abbrev pub rule : ℕ → ℕ → List ℕ → Rule
rule globals entry words = record { globals = globals; entry = entry; words = words }

abbrev pub rule_of : RuleHeader → List ℕ → Rule
rule_of h ws = rule h.globals h.entry ws

abbrev pub header_bytes : ℕ → ℕ → ℕ → List ℕ
header_bytes n globals entry = 78 ∷ 83 ∷ 67 ∷ 1 ∷ 0 ∷ (half_bytes n ++ (half_bytes globals ++ half_bytes entry))

abbrev pub stored : Rule → List ℕ
stored r = header_bytes (length r.words) r.globals r.entry ++ words_bytes r.words

abbrev pub body : List ℕ → List ℕ
body bs = words_in (drop 11 bs)

abbrev pub with_words : Result RuleHeader LoadFault → List ℕ → Result Rule LoadFault
with_words (Ok h) ws = Ok (rule_of h ws)
with_words (Err e) ws = Err e

abbrev pub loaded : List ℕ → Result Rule LoadFault
loaded bs = with_words (header_in bs) (body bs)

-- the same where only so many words have room
abbrev pub with_room : ℕ → Result RuleHeader LoadFault → Result RuleHeader LoadFault
with_room room (Ok h) = cond (nat_lt room h.words) (Err NoRoom) (Ok h)
with_room room (Err e) = Err e

abbrev pub loading : List ℕ → ℕ → Result RuleHeader LoadFault
loading bs room = with_room room (header_in bs)

-- the buffer after the answer
abbrev pub filled : Result RuleHeader LoadFault → List ℕ → List ℕ → List ℕ
filled (Ok h) bs old = body bs ++ drop h.words old
filled (Err e) bs old = old

abbrev pub store_number : StoreFault → ℕ
store_number store_fault.TooManyWords = 13
store_number store_fault.Globals = 13
store_number store_fault.Entry = 13
store_number store_fault.NoRoom = 18

abbrev pub store_words : StoreFault → List ℕ
store_words store_fault.TooManyWords = codes "it has over 8,192 words"
store_words store_fault.Globals = codes "it has over 65,535 globals"
store_words store_fault.Entry = codes "its entry address is over 65,535"
store_words store_fault.NoRoom = codes "the bytes do not fit the buffer"

-- the header, if so many words, globals and such an entry can be said in it
abbrev pub heading : Rule → Result (List ℕ) StoreFault
heading r =
    cond (nat_lt 8192 (length r.words)) (Err store_fault.TooManyWords)
    (cond (nat_lt 65535 r.globals) (Err store_fault.Globals)
    (cond (nat_lt 65535 r.entry) (Err store_fault.Entry) (Ok (header_bytes (length r.words) r.globals r.entry))))

-- the length of the stored rule, if so many words, globals and such an entry can be stored in the room
abbrev pub storing : ℕ → ℕ → ℕ → ℕ → Result ℕ StoreFault
storing words globals entry room =
    cond (nat_lt 8192 words) (Err store_fault.TooManyWords)
    (cond (nat_lt 65535 globals) (Err store_fault.Globals)
    (cond (nat_lt 65535 entry) (Err store_fault.Entry)
    (cond (nat_lt room (11 + 4 * words)) (Err store_fault.NoRoom) (Ok (11 + 4 * words)))))

-- the buffer after the answer
abbrev pub written : Result ℕ StoreFault → List ℕ → List ℕ → List ℕ
written (Ok n) bs old = bs ++ drop n old
written (Err e) bs old = old
