use Rattle.std.proofs.Common.{◌≡◌, ◌+◌, drop, map}
use Rattle.text.specs.Read.{names_in}
use Rattle.text.proofs.line.Line.expect_names.Given as goal

abbrev pub invariant-loop-k : goal.invariant-loop-k
invariant-loop-k l = names_in l.self.number (l.k + 1) (map (λ n. n.now) (drop l.k l.names)) l.self.bytes.now ≡ names_in l.self.number 1 (map (λ n. n.now) l.names) l.self.bytes.now
