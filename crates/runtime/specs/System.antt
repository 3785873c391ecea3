-- What a rule asks of its host: a number or a byte for the report, a fact.
use Rattle.std.specs.Prelude.{◌≡◌, ℕ, ◌+◌, cond, List, [], ◌∷◌, ◌++◌, length, ℤ, pos, negsuc, Ok, Err, Result, nat_le, nat_lt}
use Rattle.std.specs.Fmt.{signed_decimal}
use Rattle.std.specs.Option.{ok_or}
use Rattle.runtime.specs.Access.{nth_integer}
use Rattle.runtime.specs.Meanings.{Spared}
use Rattle.runtime.specs.declared.stop.Stop.{Stop}
use Rattle.runtime.specs.declared.stop.Stop.TheVariants.{NotByte, NoFact, ReportFull}

-- what an operation gives, and the report after it; a stop changes nothing
pub record Reported : Type 0 where
  pub result : Result ℤ Stop
  pub report : List ℕ

-- the most bytes that a report with these spare bytes can have
abbrev pub capacity : List ℕ → List ℕ → ℕ
capacity report spare = length report + length spare

-- the bytes go to the report whole, or not at all; the value is the operand
abbrev pub appended : ℕ → List ℕ → List ℕ → ℤ → Reported
appended most report bytes v =
    cond (nat_le (length report + length bytes) most) (record { result = Ok v; report = report ++ bytes }) (record { result = Err ReportFull; report = report })

-- a number in decimal, with a minus sign in front where it is below 0
abbrev pub number_written : ℤ → ℕ → List ℕ → Reported
number_written v most report = appended most report (signed_decimal v) v

-- one byte; what is not 0 to 255 is told before a full report
abbrev pub byte_written : ℤ → ℕ → List ℕ → Reported
byte_written (pos b) most report = cond (nat_lt b 256) (appended most report (b ∷ []) (pos b)) (record { result = Err NotByte; report = report })
byte_written (negsuc b) most report = record { result = Err NotByte; report = report }

-- a host before and after, by its report and its spare bytes: the answer and the report are those of the meaning
abbrev pub Writes : {H : Type 0} (report spare : H → List ℕ) → H → H → (ℕ → List ℕ → Reported) → Result ℤ Stop → Type 0
Writes report spare before after meaning r = record { result = r; report = report after } ≡ meaning (capacity (report before) (spare before)) (report before)

-- the report only grew, into its spare bytes
abbrev pub Grew : {H : Type 0} (report spare : H → List ℕ) → H → H → Type 0
Grew report spare before after = Spared (report before) (spare before) (report after) (spare after)

-- the fact of that number
abbrev pub fact_told : List ℤ → ℤ → Result ℤ Stop
fact_told facts k = ok_or (nth_integer facts k) NoFact
