use Rattle.std.proofs.Common.{◌≡◌, ◌++◌, length, drop, replicate}
use Rattle.stack.specs.Held.{cells, depth, lent}
use Rattle.stack.proofs.Stack.clear.Given as goal

abbrev pub invariant-loop-i : goal.invariant-loop-i
invariant-loop-i g l =
    (cells l.self ≡ replicate l.i l.blank ++ drop l.i (cells l.initial.self))
    × (length (cells l.self) ≡ length (cells l.initial.self))
    × (depth l.self ≡ 0)
    × (lent l.self ≡ lent l.initial.self)
