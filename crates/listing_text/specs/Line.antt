-- Text in a line.
use Rattle.std.specs.Prelude.{List, ℕ, ◌+◌, ◌≤◌}
use Rattle.listing_text.specs.declared.Line.{Line}
use Rattle.listing_text.specs.Limits.{Put, line_room}

-- k more bytes fit
abbrev pub HasRoom : ℕ → Line → Type 0
HasRoom k line = line.end + k ≤ line_room

-- `text` was put at the line's end
abbrev pub Adds : List ℕ → Line → Line → Type 0
Adds text before after = Put text before.bytes before.end after.bytes after.end

-- the same of a text that takes at most k bytes
abbrev pub AddsWithin : ℕ → List ℕ → Line → Line → Type 0
AddsWithin k text before after = Adds text before after × (after.end ≤ before.end + k)

-- the line was begun again, and holds `text`
abbrev pub Begins : List ℕ → Line → Line → Type 0
Begins text before after = Put text before.bytes 0 after.bytes after.end
