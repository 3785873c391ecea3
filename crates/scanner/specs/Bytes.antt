-- The classes of bytes.
use Rattle.std.specs.Prelude.{ℕ, cond, ◌&&◌, ◌||◌, ◌==◌, nat_le}
use Rattle.scanner.specs.declared.class.Class.{Class}
use Rattle.scanner.specs.declared.class.Class.TheVariants.{Blank, LineFeed, Open, Close, Semicolon, Letter, Foreign}

abbrev pub class : ℕ → Class
class b =
    cond (b == 9 || b == 13 || b == 32) Blank
    (cond (b == 10) LineFeed
    (cond (b == 40) Open
    (cond (b == 41) Close
    (cond (b == 59) Semicolon
    (cond (b == 34) Foreign
    (cond (nat_le 33 b && nat_le b 126) Letter Foreign))))))
