-- Digits, read one after another.
use Rattle.std.proofs.Common.{◌≡◌, ℕ, ◌+◌, ◌-◌, ◌*◌, ◌^◌, ◌<◌, ◌≤◌, true, false, ◌&&◌, List, length, get_or, drop, Some, None, sym, ap, ◌∙◌, pow-suc, add-one, arith, lit≤}
use native.Mathlib.Nat.{pow-le-pow_right}
use Rattle.std.proofs.lemmas.List.{at_drop_more, at_drop_all}
use Rattle.std.proofs.lemmas.Bool.Decides.{nat_tests}
use Rattle.std.specs.Char.{digit_value}
use Rattle.std.proofs.lemmas.Bool.{and_from, and_left, and_right, lt-ltb, cond-true, cond-false}
use Rattle.scanner.specs.Words.{worth, digit, digits, magnitude}

-- the first i bytes of a word are digits of value n
pub record Read (w : List ℕ) (n i : ℕ) : Type 0 where
  pub value : worth n (drop i w) ≡ worth 0 w
  pub all : digits (drop i w) ≡ digits w
  pub bound : n < 10 ^ i

-- a byte that is read as a digit, and one that is not
pub decimal : (b d : ℕ) → (digit_value b < 10) × (d ≡ digit_value b) → (b ≡ 48 + d) × (d < 10)
decimal b d h = grind (arith, nat_tests)

pub no_decimal : (b : ℕ) → (48 ≤ b → b ≤ 57 → 58 ≤ b) → digit b ≡ false
no_decimal b other = grind (arith, nat_tests)

module _ (w : List ℕ) (n i : ℕ) (h : i < length w) (r : Read w n i) where
  pub read_more : (d : ℕ) → (get_or w i 0 ≡ 48 + d) × (d < 10) → Read w (n * 10 + d) (i + 1)
  read_more d is =
      let yes' : digit (get_or w i 0) ≡ true = grind (arith, nat_tests) in
      let split : digits (drop i w) ≡ digit (get_or w i 0) && digits (drop (i + 1) w) = at_drop_more digits w i 0 h in
      let power : 10 ^ (i + 1) ≡ 10 ^ i * 10 = ap (λ k. 10 ^ k) (add-one i) ∙ pow-suc 10 i in
      let worth_is : worth (n * 10 + d) (drop (i + 1) w) ≡ worth (n * 10 + (get_or w i 0 - 48)) (drop (i + 1) w) = ap (λ m. worth m (drop (i + 1) w)) (omega arith) in
      record {
        value = worth_is ∙ sym (at_drop_more (worth n) w i 0 h) ∙ r.value;
        all = sym (split ∙ ap (λ b. b && digits (drop (i + 1) w)) yes') ∙ r.all;
        bound = rw power (omega (arith, r.bound));
      }

  pub read_bad : digit (get_or w i 0) ≡ false → magnitude w ≡ None
  read_bad bad =
      let split : digits (drop i w) ≡ digit (get_or w i 0) && digits (drop (i + 1) w) = at_drop_more digits w i 0 h in
      let none : digits w ≡ false = sym r.all ∙ split ∙ and_left _ _ bad in
      cond-false _ _ _ (and_right _ _ none)

pub read_all : (w : List ℕ) (n i : ℕ) → 0 < length w → length w ≤ i → Read w n i → magnitude w ≡ Some n
read_all w n i some full r =
    let yes' : digits w ≡ true = sym r.all ∙ at_drop_all digits w i full in
    cond-true _ _ _ (and_from _ _ (lt-ltb _ _ some) yes') ∙ ap Some (sym r.value ∙ at_drop_all (worth n) w i full)

-- the value so far has few digits
pub few : (w : List ℕ) (n i : ℕ) → length w ≤ 16 → i < length w → Read w n i → n < 10 ^ 15
few w n i fits h r = let le : i ≤ 15 = omega arith in omega (arith, r.bound, pow-le-pow_right {n = 10} (lit≤ tt) le)
