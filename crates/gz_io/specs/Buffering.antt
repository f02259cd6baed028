-- A sink behind a buffer.
use Rattle.std.specs.Prelude.{ℕ, List}

-- the sink, and the bytes that were written and not yet handed on to it
pub record Buffering (K : Type 0) : Type 0 where
  pub inner : K
  pub held : List ℕ
