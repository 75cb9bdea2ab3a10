-- What the answer to a step of the listing means.
use Rattle.std.specs.Prelude.{◌≡◌}
use Rattle.listing_text.specs.declared.Line.{Line}
use Rattle.listing_text.specs.Line.{Begins}
use Rattle.listing.specs.declared.Listed.{Listed}
use Rattle.listing.specs.ListingSteps.{ListingStep}

-- the code's answer r to the step s, whose line was begun again in `after`
pub record ListedAs (s : ListingStep) (before after : Line) (r : Listed) : Type 0 where
  pub line : Begins s.line before after
  pub taken : r.taken ≡ s.taken
  pub next : r.next ≡ s.next
