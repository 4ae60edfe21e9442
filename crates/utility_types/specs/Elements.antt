-- What an answer names, with the path that the caller lent: document 01's element, event or tokens.
use Rattle.std.specs.Prelude.{ℕ, List, [], ◌∷◌, take}
use Rattle.definitions.specs.Element.{Shown}
use Rattle.definitions.specs.Preorder.{WalkEvent as Event, enter, leave}
use Rattle.utility_types.specs.declared.SyntaxElement.{SyntaxElement}
use Rattle.utility_types.specs.declared.WalkEvent.{WalkEvent}
use Rattle.utility_types.specs.declared.WalkEvent.TheVariants.{Enter, Leave}
use Rattle.utility_types.specs.declared.TokenAtOffset.{TokenAtOffset}
use Rattle.utility_types.specs.declared.TokenAtOffset.TheVariants.{None, Single, Between}

abbrev pub shown_at : List ℕ → SyntaxElement → Shown
shown_at path e = record { path = take e.depth path; is_node = e.is_node; kind = e.kind.0; start = e.start; end = e.end }

abbrev pub event_at : List ℕ → WalkEvent → Event
event_at path (Enter e) = enter (shown_at path e)
event_at path (Leave e) = leave (shown_at path e)

-- the left token's path and the right one's are lent apart
abbrev pub tokens_at : List ℕ → List ℕ → TokenAtOffset → List Shown
tokens_at left right None = []
tokens_at left right (Single e) = shown_at left e ∷ []
tokens_at left right (Between e f) = shown_at left e ∷ shown_at right f ∷ []
