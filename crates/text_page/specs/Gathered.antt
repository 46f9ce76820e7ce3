-- A text that goes to a sink by way of a page.
use Rattle.std.specs.Prelude.{◌≡◌, ℕ, List, ◌++◌, Option, Result, Ok, Err}
use Rattle.std.specs.Io.KnownBytes.{Appends}
use Rattle.io_edge.specs.Devices.{AppendsPrefix}

-- what the sink took and what the page holds now are what the page held and the text
abbrev pub HasGathered : Option (List ℕ) → List ℕ → Option (List ℕ) → List ℕ → List ℕ → Type 0
HasGathered before held after holds text = (out : List ℕ) × Appends before after out × (out ++ holds ≡ held ++ text)

-- that at Ok, and where the call failed the sink took a prefix of what the page held and the text
abbrev pub Gathers : {T E : Type 0} → Option (List ℕ) → List ℕ → Option (List ℕ) → List ℕ → Result T E → List ℕ → Type 0
Gathers before held after holds (Ok x) text = HasGathered before held after holds text
Gathers before held after holds (Err e) text = AppendsPrefix before after (held ++ text)
