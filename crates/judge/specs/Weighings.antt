-- What the steps of a weighing leave as it is.
use Rattle.std.specs.Prelude.{◌≡◌}
use Rattle.sheet.specs.declared.sheet.Sheet.{Ghosts}
use Rattle.judge.specs.declared.weigh.Weighing.{Weighing}

-- it goes on with the same sheet and the same lent memory
pub record Continues {S : Type 0} {g : Ghosts S} (old new : Weighing S g) : Type 0 where
  pub sheet : new.sheet.now ≡ old.sheet.now
  pub memory : new.sums.ghost_name ≡ old.sums.ghost_name
