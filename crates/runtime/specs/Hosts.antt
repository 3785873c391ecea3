-- What an operation on a host leaves as it was.
use Rattle.std.specs.Prelude.{◌≡◌}
use Rattle.runtime.specs.System.{Grew}
use Rattle.runtime.specs.declared.host.Facts as Facts
use Rattle.runtime.specs.declared.host.PushHost as PushHost

-- the report only grew, into its spare bytes; the facts, and which host it is, stay
pub record KeepsHost {H : Type 0} (F : Facts.Ghosts H) (G : PushHost.Ghosts H) (before after : H) : Type 0 where
  pub spared : Grew G.report G.spare before after
  pub facts : F.facts after ≡ F.facts before
  pub place : G.place after ≡ G.place before
