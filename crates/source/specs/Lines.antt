-- Lines and columns.
use Rattle.std.specs.Prelude.{ℕ, ◌+◌, ◌-◌, min, not, List, length, take, drop, reverse, count_by, take_while, ◌==◌}
use Rattle.source.specs.declared.location.Location.{Location}

-- how many line feeds there are
abbrev pub feeds : List ℕ → ℕ
feeds bs = count_by (λ b. b == 10) bs

-- the bytes up to the first line feed
abbrev pub line_part : List ℕ → List ℕ
line_part bs = take_while (λ b. not (b == 10)) bs

-- how many bytes stand behind the last line feed
abbrev pub behind_feed : List ℕ → ℕ
behind_feed bs = length (line_part (reverse bs))

-- A place in the text: its line comes behind as many line feeds as stand before the place, begins behind the last
-- of them, and ends before the next.
abbrev pub location_in : List ℕ → ℕ → Location
location_in text p =
    record {
      line = feeds (take p text) + 1;
      column = behind_feed (take p text) + 1;
      start = p - behind_feed (take p text);
      end = p + length (line_part (drop p text));
    }

-- a place behind the text counts as its end
abbrev pub location : List ℕ → ℕ → Location
location text p = location_in text (min p (length text))
