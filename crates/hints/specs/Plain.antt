use Rattle.std.specs.Prelude.{ℕ, ◌≤◌}

-- a byte that a terminal shows and doesn't obey: a space to a tilde
abbrev pub IsPlain : ℕ → Type 0
IsPlain b = (0x20 ≤ b) × (b ≤ 0x7E)
