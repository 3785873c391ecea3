-- The first token among what the scanner gives, where faults are passed over.
use Rattle.std.proofs.Common.{◌≡◌, ℕ, suc, ◌<◌, true, List, [], ◌∷◌, map, length, get_or, Some, None, Ok, Err, Option, Result, sym, refl, ap, ◌∙◌, arith}
use Rattle.std.proofs.iter.Rest.{run_of_first_by}
use Rattle.std.specs.Fn.{Called}
use Rattle.std.specs.Iterator.{YieldsFirstBy, Yields, FindsMapped}
use Rattle.std.specs.Iterator.Runs.{Run, AllItems}
use Rattle.std.specs.List.{FoldsTo}
use Rattle.std.proofs.lemmas.Option.{IfSome_then}
use Rattle.std.specs.Option.{MatchOption, IfSome, option_map}
use Rattle.scanner.specs.declared.fault.ScanFault.{ScanFault}
use Rattle.scanner.specs.declared.scanner.Scanner.{Scanner}
use Rattle.scanner.specs.declared.token.Token.{Token}
use Rattle.scanner.specs.Scans.{ahead, left, lexemes, Next, seen}
use denote.Param.Members.{Mut}

abbrev Read : Type 0
Read = Result Token ScanFault

abbrev ok : Read → Option Token
ok (Ok t) = Some t
ok (Err f) = None

fault_passed : (x : Read) (s j : Scanner) → left s ≡ seen x ∷ left j → None ≡ ok x → ahead s ≡ ahead j
fault_passed (Ok t) s j e none = cc
fault_passed (Err f) s j e none = ap lexemes e

-- where no item is a token there is none ahead
only_faults : (xs : List Read) → ((k : ℕ) (d : Read) → k < length xs → None ≡ ok (get_or xs k d)) → lexemes (map seen xs) ≡ []
only_faults [] all = refl
only_faults (Ok t ∷ xs) all = let none = all 0 (Ok t) (omega arith) in cc
only_faults (Err f ∷ xs) all = only_faults xs (λ k d h. all (suc k) d (omega arith))

read_at : (o : Option Read) (x : Read) → option_map (λ y. y) o ≡ Some x → IfSome o (λ y. None ≡ ok y) → None ≡ ok x
read_at None x e h = cc
read_at (Some y) x e h = cc

last_read : (o : Option Read) (r : Option Token) (t u : Scanner) → YieldsFirstBy seen left t o u → MatchOption o (r ≡ None) (λ x. r ≡ ok x) → (r ≡ None → ahead t ≡ []) → Next (ahead t) r (ahead u)
last_read None r t u y e none = rw e (ap lexemes y.0, ap lexemes y.1)
last_read (Some (Ok x)) r t u y e none = rw e (ap lexemes y)
last_read (Some (Err f)) r t u y e none = rw e (none e, sym (ap lexemes y) ∙ none e)

module _ {F : Type 0} (g : Mut F (Read × Unit {0}) (Option Token)) (gives : (x : Read) (r : Option Token) (f f' : F) → Called g f (x, tt) r f' → r ≡ ok x) where
  faults_passed : (xs : List Read) (s t : Scanner) (f f' : F) → Yields (YieldsFirstBy seen left) s xs t → FoldsTo (λ p x q. Called g p (x, tt) None q) f xs f' → ahead s ≡ ahead t
  faults_passed [] s t f f' y h = ap ahead y
  faults_passed (x ∷ xs) s t f f' y h =
      fault_passed x s y.0 y.1 (gives x None f h.0 h.1) ∙ faults_passed xs y.0 t h.0 f' y.2 h.2

  none_ahead : (p : Run (YieldsFirstBy seen left)) (f : F) → p.whole ≡ true → AllItems p (λ x. Called g f (x, tt) None f) → ahead p.from ≡ []
  none_ahead p f whole none =
      let same : map seen p.items ≡ left p.from = (run_of_first_by seen left p).1.4 whole in
      ap lexemes (sym same) ∙ only_faults p.items (λ k d h. read_at (p.at k) (get_or p.items k d) (p.reads k d (omega (arith, p.long))) (IfSome_then (p.at k) (none k) (λ x called. gives x None f f called)))

  told : (o : Option Read) (r : Option Token) (f : F) → MatchOption o (r ≡ None) (λ x. (h : F) × Called g f (x, tt) r h) → MatchOption o (r ≡ None) (λ x. r ≡ ok x)
  told None r f m = m
  told (Some x) r f m = gives x r f m.0 m.1

  pub found : (s u : Scanner) (f : F) (r : Option Token) → FindsMapped (YieldsFirstBy seen left) g s f r u → (p : Run (YieldsFirstBy seen left)) → p.from ≡ s → (r ≡ None → (p.whole ≡ true) × AllItems p (λ x. Called g f (x, tt) None f)) → Next (ahead s) r (ahead u)
  found s u f r ran p from whole =
      let passed = faults_passed ran.0 s ran.3.0 f ran.2 ran.3.1 ran.4 in
      rw passed (last_read ran.1 r ran.3.0 u ran.3.2 (told ran.1 r ran.2 ran.5) (λ none. sym passed ∙ ap ahead (sym from) ∙ none_ahead p f (whole none).0 (whole none).1))
