use Rattle.std.proofs.Common.{◌≡◌, ◌++◌, take, drop}
use Rattle.runtime.proofs.system.append.Given as goal

abbrev pub invariant-loop-byte : goal.invariant-loop-byte
invariant-loop-byte g l = record {
  report : g.H.PushHost.report l.host ≡ g.H.PushHost.report l.initial.host ++ take l.byte-index l.bytes;
  spare : g.H.PushHost.spare l.host ≡ drop l.byte-index (g.H.PushHost.spare l.initial.host);
  facts : g.H.Facts.facts l.host ≡ g.H.Facts.facts l.initial.host;
  place : g.H.PushHost.place l.host ≡ g.H.PushHost.place l.initial.host;
}
