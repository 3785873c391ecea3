use Rattle.std.proofs.Common.{◌≡◌, ◌+◌}
use Rattle.scanner.specs.Scans.{left}
use Rattle.scanner.proofs.Steps.{Going, owed}
use Rattle.scanner.proofs.scanner.ScannerIterator.next.Given as goal

abbrev pub invariant-loop-byte : goal.invariant-loop-byte
invariant-loop-byte l = record {
  same : l.self.text ≡ l.initial.self.text;
  here : l.self.at ≡ l.initial.self.at + l.byte-index;
  owes : owed l.state l.self.text.now l.self.at ≡ left l.initial.self;
  going : Going l.state l.self.text.now l.self.at;
}
