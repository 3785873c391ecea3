use Rattle.std.proofs.Common.{◌≡◌, ◌-◌, ◌++◌, length, take, drop, replicate, pos}
use Rattle.runtime.proofs.in_use_mut.clear_cells.Given as goal

abbrev pub invariant-loop-place : goal.invariant-loop-place
invariant-loop-place g l =
    let before = g.M.Memory.cells l.initial.memory in
    let after = g.M.Memory.cells l.memory in record {
      below : take l.place after ≡ take l.from before ++ replicate (l.place - l.from) (pos 0);
      long : length after ≡ length before;
      rest : drop l.place after ≡ drop l.place before;
      around : g.M.Memory.around l.memory ≡ g.M.Memory.around l.initial.memory;
    }
