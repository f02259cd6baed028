use Rattle.std.proofs.Common.{◌≡◌, ◌≢◌, ◌∙◌, ℕ, List, inl, refl, subst}
use Rattle.std.specs.Io.KnownBytes.{Appends}
use Rattle.trace_cli.specs.Storms.{StopsStorm, summary_text}
use Rattle.trace_cli.specs.declared.exit.Exit.TheVariants as exit
use Rattle.trace_cli.proofs.Closing.{handed_by}
use Rattle.trace_cli.proofs.Storming.{handed_quiet, handed_rose, stops_unwritten, storm_stopped, storm_summed}
use Rattle.trace_cli.proofs.storm.answer_storm.Goals as goal

done_written : exit.Done ≢ exit.WriteFault
done_written e = cc e

memory_written : exit.NoMemory ≢ exit.WriteFault
memory_written e = cc e

memory_stops : (lines : ℕ) → StopsStorm lines exit.NoMemory
memory_stops lines = inl refl

pub returns-in-Ok-write_all : goal.returns-in-Ok-write_all
returns-in-Ok-write_all g c =
    let old = g.K.Sink.written c.args.sink.now in
    let mid = g.K.Sink.written c.write_all.new.sink in
    let text : c.as_slice.result.now ≡ summary_text c.in-Ok.summary =
    c.as_slice.ensures.value ∙ c.in-Ok-summary_text.ensures in
    let close = c.end_so-in-Ok-write_all.ensures in
    let same = c.in-Ok-write_all.ensures.cause.same in
    record {
      storm = storm_summed c.args.seed c.args.lines old _ mid c.in-Ok.summary _
          c.in-Ok.ensures.ok (subst (λ (t : List ℕ). Appends old mid t) text c.in-Ok-write_all.ensures.ok)
          close.cause close.kept;
      quiet = handed_quiet _ _ _ _ exit.Done _ done_written close.cause same;
      handed_on = handed_by close.cause;
      write = handed_rose _ _ _ _ exit.Done _ done_written close.cause same;
    }

pub returns-in-Err : goal.returns-in-Err
returns-in-Err g c =
    let close = c.end_so.ensures in
    let other = stops_unwritten c.args.lines c.in-Err.exit c.in-Err.ensures.err in
    record {
      storm = storm_stopped c.args.seed c.args.lines _ _ c.in-Err.exit _ c.in-Err.ensures.err close.cause close.kept;
      quiet = handed_quiet _ _ _ _ c.in-Err.exit _ other close.cause refl;
      handed_on = handed_by close.cause;
      write = handed_rose _ _ _ _ c.in-Err.exit _ other close.cause refl;
    }

pub returns-in_default : goal.returns-in_default
returns-in_default g c =
    let close = c.end_so-in_default.ensures in
    record {
      storm = storm_stopped c.args.seed c.args.lines _ _ exit.NoMemory _ (memory_stops c.args.lines) close.cause
          close.kept;
      quiet = handed_quiet _ _ _ _ exit.NoMemory _ memory_written close.cause refl;
      handed_on = handed_by close.cause;
      write = handed_rose _ _ _ _ exit.NoMemory _ memory_written close.cause refl;
    }
