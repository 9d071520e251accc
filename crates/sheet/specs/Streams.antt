-- The streams of a part, one after the other.
use Rattle.std.specs.Prelude.{◌≡◌, ◌+◌, [], ◌∷◌, Option, MatchOption}
use Rattle.sheet.specs.Parts.{width_of}
use Rattle.sheet.specs.declared.part.streams.PartStream.{PartStream}
use Rattle.sheet.specs.declared.part.streams.PartStreams.{PartStreams}

-- p is the first of the streams s, and t are the others, whose unknowns come after those of p
pub record Leads (s : PartStreams) (p : PartStream) (t : PartStreams) : Type 0 where
  pub first : s.rest.now ≡ p.stream.now ∷ t.rest.now
  pub in_part : p.last ≡ s.last
  pub begins : p.offset ≡ s.offset
  pub same_part : t.last ≡ s.last
  pub after : t.offset ≡ s.offset + width_of s.last p.stream.now.stretch

-- the first of the streams s is taken, if there is one
abbrev pub TakesFirst : PartStreams → Option PartStream → PartStreams → Type 0
TakesFirst s r t = MatchOption r ((s.rest.now ≡ []) × (t ≡ s)) (λ p. Leads s p t)
