-- What sources and sinks in memory hold.
use Rattle.std.specs.Prelude.{ℕ, List, Result, Ok, Err}
use Rattle.gz_io.specs.Causes.{one_more}

-- the calls that are to fail, counted from 0; how many calls there were, and how many of them failed
pub record Script : Type 0 where
  pub failing : List ℕ
  pub calls : ℕ
  pub faults : ℕ

-- the script after a call
abbrev pub after_call : {T E : Type 0} → Script → Result T E → Script
after_call s (Ok x) = record { failing = s.failing; calls = one_more s.calls; faults = s.faults }
after_call s (Err e) = record { failing = s.failing; calls = one_more s.calls; faults = one_more s.faults }

-- a source: the bytes still to come, the most that it gives at a time, and its script
pub record Supply : Type 0 where
  pub rest : List ℕ
  pub greatest : ℕ
  pub script : Script

-- a sink: the bytes that it took, the most that it takes at a time, and its script
pub record Store : Type 0 where
  pub bytes : List ℕ
  pub greatest : ℕ
  pub script : Script

-- a source that never fails
pub record SureSupply : Type 0 where
  pub rest : List ℕ
  pub greatest : ℕ

-- a sink that never fails and keeps no byte: how many it took
pub record Tally : Type 0 where
  pub count : ℕ
  pub greatest : ℕ
