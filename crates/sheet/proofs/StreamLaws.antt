-- Where the unknowns of a part's streams stand, one stream after the other.
use Rattle.std.proofs.Common.{◌≡◌, ℕ, ◌+◌, ◌≤◌, length, ap, ◌∙◌, arith}
use Rattle.std.proofs.lemmas.List.Sums.{sum_by-cons}
use Rattle.chain.specs.declared.stream.Stream.{Stream}
use Rattle.sheet.specs.Parts.{width_of, widths}
use Rattle.sheet.specs.Streams.{Leads}
use Rattle.sheet.specs.declared.part.streams.PartStream.{PartStream}
use Rattle.sheet.specs.declared.part.streams.PartStreams.{PartStreams}

-- the last unknown of these streams
abbrev pub end_of : PartStreams → ℕ
end_of s = s.offset + widths s.last s.rest.now

module _ (s : PartStreams) (p : PartStream) (t : PartStreams) (e : Leads s p t) where
  widths_first : widths s.last s.rest.now ≡ width_of s.last p.stream.now.stretch + widths s.last t.rest.now
  widths_first = ap (widths s.last) e.first ∙ sum_by-cons (λ (x : Stream). width_of s.last x.stretch) p.stream.now t.rest.now

  pub same_end : end_of t ≡ end_of s
  same_end = rw e.same_part (omega (arith, widths_first, e.after))

  pub own_within : p.offset + width_of p.last p.stream.now.stretch ≤ end_of s
  own_within = rw e.in_part (omega (arith, widths_first, e.begins))

  pub one_less : length s.rest.now ≡ length t.rest.now + 1
  one_less = omega (arith, ap length e.first)
