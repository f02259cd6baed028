-- What is still to come of a trace.
use Rattle.std.specs.Prelude.{◌≡◌, ℕ, List, Option}
use Rattle.std.specs.Io.KnownBytes.{prepend_known}

pub record Input : Type 0 where
  -- bytes that were taken and stand in no line that was given
  pub held : List ℕ
  -- the bytes behind them, where they are told
  pub left : Option (List ℕ)
  -- how often reading failed; this never falls
  pub faults : ℕ

-- all bytes to come, where they are told
abbrev pub to_come : Input → Option (List ℕ)
to_come i = prepend_known i.held i.left

-- nothing of the bytes behind those that are held was read
abbrev pub IsUnread : Input → Input → Type 0
IsUnread old new = (new.left ≡ old.left) × (new.faults ≡ old.faults)
