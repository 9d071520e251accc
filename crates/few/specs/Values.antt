-- What a table holds.
use Rattle.std.specs.Prelude.{ℕ, List, take}
use Rattle.few.specs.declared.Few.{Few}

-- the values in order, without what stands behind them
abbrev pub items : {T : Type 0} → {N : ℕ} → Few T N → List T
items f = take f.len f.places
