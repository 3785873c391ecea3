-- What the class of a byte says of it, and what holds of every piece, one byte after another.
use Rattle.std.proofs.Common.{◌≡◌, ℕ, ◌+◌, ◌≤◌, ◌&&◌, ◌||◌, eqb, leb, List, [], ◌∷◌, refl, subst, arith}
use Rattle.std.specs.List.{AllByRecursion}
use Rattle.std.proofs.ByRecursion.{All-weaker}
use Rattle.std.proofs.lemmas.Bool.{cond_both, eqb-true}
use Rattle.scanner.specs.Bytes.{class}
use Rattle.scanner.specs.Pieces.{Piece, opening, closing, spelled, foreign, piece_place, Mode, between, in_word, in_comment, letters, step, pieces}
use Rattle.scanner.specs.declared.class.Class.{Class}
use Rattle.scanner.specs.declared.class.Class.TheVariants.{Blank, LineFeed, Open, Close, Semicolon, Letter, Foreign}

-- what the class says of a byte where it has only one
abbrev Told : Class → ℕ → Type 0
Told Blank b = Unit {0}
Told LineFeed b = b ≡ 10
Told Open b = b ≡ 40
Told Close b = b ≡ 41
Told Semicolon b = b ≡ 59
Told Letter b = Unit {0}
Told Foreign b = Unit {0}

told : (b : ℕ) → Told (class b) b
told b =
    let P : Class → Type 0 = λ k. Told k b in
    cond_both (eqb b 9 || eqb b 13 || eqb b 32) _ _ P (λ e. tt) (λ e.
    cond_both (eqb b 10) _ _ P (eqb-true b 10) (λ e.
    cond_both (eqb b 40) _ _ P (eqb-true b 40) (λ e.
    cond_both (eqb b 41) _ _ P (eqb-true b 41) (λ e.
    cond_both (eqb b 59) _ _ P (eqb-true b 59) (λ e.
    cond_both (eqb b 34) _ _ P (λ e. tt) (λ e.
    cond_both (leb 33 b && leb b 126) _ _ P (λ e. tt) (λ e. tt)))))))

pub byte_of : (k : Class) (b : ℕ) → class b ≡ k → Told k b
byte_of k b e = subst (λ k. Told k b) e (told b)

-- what holds of every piece holds of those from one byte on
pub all_step : (P : Piece → Type 0) (m : Mode) (k : Class) (b p : ℕ) (w : List ℕ) (go : Mode → List Piece) → (k ≡ Open → P (opening p)) → (k ≡ Close → P (closing p)) → (k ≡ Letter → P (spelled w p)) → (k ≡ Foreign → P (foreign b p)) → ((n : Mode) → AllByRecursion P (go n)) → AllByRecursion P (step m k b p w go)
all_step P in_comment LineFeed b p w go o c l f h = h between
all_step P in_comment Foreign b p w go o c l f h = (f refl, h in_comment)
all_step P in_comment _ b p w go o c l f h = h in_comment
all_step P between Letter b p w go o c l f h = (l refl, h in_word)
all_step P in_word Letter b p w go o c l f h = h in_word
all_step P _ Open b p w go o c l f h = (o refl, h between)
all_step P _ Close b p w go o c l f h = (c refl, h between)
all_step P _ Semicolon b p w go o c l f h = h in_comment
all_step P _ Foreign b p w go o c l f h = (f refl, h between)
all_step P _ _ b p w go o c l f h = h between

pub places_from : (m : Mode) (p : ℕ) (bs : List ℕ) → AllByRecursion (λ x. p ≤ piece_place x) (pieces m p bs)
places_from m p [] = tt
places_from m p (b ∷ bs) =
    let here : p ≤ p = omega arith in
    all_step (λ x. p ≤ piece_place x) m (class b) b p (letters (b ∷ bs)) (λ n. pieces n (p + 1) bs) (λ _. here) (λ _. here) (λ _. here) (λ _. here)
    (λ n. All-weaker (λ x. p + 1 ≤ piece_place x) (λ x. p ≤ piece_place x) (λ x h. omega arith) (pieces n (p + 1) bs) (places_from n (p + 1) bs))
