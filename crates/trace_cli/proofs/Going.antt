-- From one standing to the next, and to the exits.
use Rattle.std.proofs.Common.{◌≡◌, ◌≢◌, ◌↔◌, ℕ, ◌+◌, ◌^◌, ◌<◌, ◌≤◌, List, [], Option, Some, None, refl, sym, subst, ◌∙◌}
use Rattle.std.proofs.Common.{length, arith, ◌-◌, ◌*◌, is_some, true, false, inl, inr, ◌⊎◌, Result, Ok, Err}
use Rattle.std.specs.Prelude.{IfOk}
use Rattle.std.specs.Io.KnownBytes.{Appends}
use Rattle.gz_io.specs.Causes.{AppendsFront, Rose}
use Rattle.gz_io.specs.Lines.{GivesKnown, IsPlain}
use Rattle.gz_names.specs.declared.commands.Cmd.{Cmd}
use Rattle.gz_names.specs.declared.replies.Reply.{Reply}
use Rattle.gz_names.specs.declared.replies.Report.{Report}
use Rattle.cell_bits.specs.declared.bits.Bits.{Bits}
use Rattle.colour_defs.specs.Laws.{IsValid}
use Rattle.colour_defs.specs.Lawful.{Answers, IsRunning}
use Rattle.colour_defs.specs.World.{World, first_world}
use Rattle.colour_defs.proofs.ValidRuns.{answer_valid}
use Rattle.command_source.specs.Giving.{GivesCommand, GivesBad}
use Rattle.command_source.specs.Input.{Input, to_come}
use Rattle.slice_driver.specs.Advances.{AreOut}
use Rattle.slice_driver.specs.Collector.{CollectorState}
use Rattle.slice_driver.specs.Left.{units_left}
use Rattle.slice_driver.specs.Represents.{Represents}
use Rattle.slice_driver.specs.Units.{none_flown}
use Rattle.slice_driver.specs.UnitsToCome.{units_to_come}
use Rattle.trace_cli.specs.declared.answer.AnswerFault.{AnswerFault}
use Rattle.trace_cli.specs.declared.machine.Machine.{Machine}
use Rattle.slice_driver.proofs.abstraction.WorldRuns.{world_runs}
use Rattle.trace_cli.specs.declared.pending.Pending.{Pending}
use Rattle.trace_cli.specs.declared.pending.Pending.TheVariants as pending
use Rattle.trace_cli.specs.Headline.{WritesFront, WritesStart}
use Rattle.trace_cli.specs.Pending.{done_of, limit_of}
use Rattle.trace_cli.specs.Reaching.{Stands}
use Rattle.trace_cli.specs.Standing.{Amid, Between, EndsIn, Entry, HasMadeAtMost, HasRoomForOne, IsNew, IsStanding}
use Rattle.trace_cli.specs.Standing.{MakesAtMostOne, MakesNone, Standing, StandsWith, amid, between, entry_of}
use Rattle.trace_cli.specs.Standing.{BreaksLine, EndsLine, HandsOn, HasEnded, first, last_line, somewhere}
use Rattle.trace_cli.specs.Standing.{turns_left, unbegun}
use Rattle.trace_cli.specs.Starting.{BeginsAnswer, IsAnswering, StartedAs}
use Rattle.trace_cli.specs.Worlds.{EachWorld}
use Rattle.trace_cli.specs.Writing.{BreaksFurther, BreaksInReset, Goes, GoesFurther, GoesOnReset, StopsFurther}
use Rattle.trace_cli.specs.Writing.{WritesSoFar, WritesSweeps, WritesUnits, broke_reset, broke_units, did_reset}
use Rattle.trace_cli.specs.Writing.{did_units, stopped_before, stopped_units}
use Rattle.trace_cli.proofs.ArenasOut.{out_none}
use Rattle.trace_cli.proofs.Ending.{IsOver, IsReset, answers_more, done_counted, is_reset, line_breaks, line_fronts}
use Rattle.trace_cli.proofs.Ending.{line_stops, line_writes, reset_asked, so_far_sound, so_far_sweeps, so_far_units}
use Rattle.trace_cli.proofs.Ending.{sweeps_so_far, units_so_far}
use Rattle.trace_cli.proofs.Resetting.{no_sweeps, reset_broken, reset_waits, sweeps_break, sweeps_more}
use Rattle.trace_cli.proofs.Stands.{opened_first, stands_first, stands_kept, stands_more, done_after, ends_write}
use Rattle.trace_cli.proofs.Stands.{many_after, part_after, read_after, refused_after, refused_at_limit, refused_write}
use Rattle.trace_cli.proofs.Stands.{start_front, start_kept, stop_after, write_after}
use Rattle.trace_cli.proofs.UnitBound.{idle_within}
use Rattle.trace_cli.proofs.Units.{after_units, allows_none, more_breaks, more_stops, more_units, no_units}
use Rattle.trace_cli.proofs.Units.{none_stopped}
use Rattle.trace_cli.specs.declared.exit.Exit.{Exit}
use Rattle.trace_cli.proofs.Closing.{bad_is_none, ended_done, ended_plain, ended_read, ended_write, limit_is_none}
use Rattle.trace_cli.proofs.Closing.{memory_is_none}
use Rattle.trace_cli.specs.declared.machine.Pause.{Pause}
use Rattle.trace_cli.specs.Pauses.{IsLeftBy, PausesSo, bits_in, outs_in}
use Rattle.gz_io.specs.declared.reader.Next.TheVariants as next
use Rattle.trace_cli.specs.declared.exit.Exit.TheVariants as exit
use Rattle.trace_cli.specs.declared.machine.Pause.TheVariants as pause

-- every line was answered, where the source gave no byte more
ends_here : (e : Entry) (m k : Machine) (b ys p q : Option (List ℕ)) (line : List ℕ) (outs : List (ℕ × ℕ))
    (flown : ℕ → Option Bits) → Between e b p m.answered m.collector outs flown → Appends p q []
    → GivesKnown b ys next.End line → k.collector ≡ m.collector → k.answered ≡ m.answered → EndsIn e k q
ends_here e m k b ys p q line outs flown so kept given same count = record {
  rest = b;
  outs = outs;
  flown = flown;
  here = subst (λ (c : CollectorState). Between e b q k.answered c outs flown) (sym same)
      (subst (λ (n : ℕ). Between e b q n m.collector outs flown) (sym count) (record {
        world = so.world;
        represents = so.represents;
        valid = so.valid;
        within = so.within;
        stands = stands_kept _ _ _ _ _ _ so.world so.stands kept;
        made = so.made;
        out = so.out;
      }));
  read = λ xs is. none_given b ys line given xs is;
}
  where
    none_given : (b ys : Option (List ℕ)) (line : List ℕ) → GivesKnown b ys next.End line → (xs : List ℕ)
        → b ≡ Some xs → xs ≡ []
    none_given None ys line given xs is = absurd (cc is)
    none_given (Some zs) None line given xs is = absurd given
    none_given (Some zs) (Some ys) line given xs is = let same : zs ≡ xs = cc is in sym same ∙ given.0

-- where a line is to be asked for, and where one is being answered
pub record AtStart (e : Entry) (m : Machine) (i : Input) (written : Option (List ℕ))
    (writes : ℕ) (outs : List (ℕ × ℕ)) (flown : ℕ → Option Bits) : Type 0 where
  pub few : m.answered ≤ 4294967295
  pub here : Between e (to_come i) written m.answered m.collector outs flown
  pub reads_are : i.faults ≡ e.reads
  pub writes_are : writes ≡ e.writes

pub opened_start : {e : Entry} {m : Machine} {i : Input} {written : Option (List ℕ)} {writes : ℕ}
    {outs : List (ℕ × ℕ)} {flown : ℕ → Option Bits} → m.pending ≡ None
    → Standing e m i written writes outs flown → AtStart e m i written writes outs flown
opened_start none (between n few b r w) = record { few = few; here = b; reads_are = r; writes_are = w }
opened_start none (amid more some few a r w) = absurd (cc (none, some))

-- what was held back is handed on before the next line is asked for
pub start_flushed : {e : Entry} {m : Machine} {i : Input} {p q : Option (List ℕ)} {f g : ℕ} {outs : List (ℕ × ℕ)}
    {flown : ℕ → Option Bits} → Appends p q [] → g ≡ f → AtStart e m i p f outs flown → AtStart e m i q g outs flown
start_flushed kept same so = record {
  few = so.few;
  here = record {
    world = so.here.world;
    represents = so.here.represents;
    valid = so.here.valid;
    within = so.here.within;
    stands = stands_kept _ _ _ _ _ _ so.here.world so.here.stands kept;
    made = so.here.made;
    out = so.here.out;
  };
  reads_are = so.reads_are;
  writes_are = same ∙ so.writes_are;
}

pub record AtAmid (e : Entry) (m : Machine) (more : Pending) (i : Input)
    (written : Option (List ℕ)) (writes : ℕ) (outs : List (ℕ × ℕ)) (flown : ℕ → Option Bits) : Type 0 where
  pub few : m.answered < 4294967295
  pub here : Amid e (to_come i) written m.answered m.collector more outs flown
  pub reads_are : i.faults ≡ e.reads
  pub writes_are : writes ≡ e.writes

same_some : (a b : Pending) (o : Option Pending) → o ≡ Some a → o ≡ Some b → a ≡ b
same_some a b o x y = cc (x, y)

pub opened_amid : {e : Entry} {m : Machine} {more : Pending} {i : Input} {written : Option (List ℕ)} {writes : ℕ}
    {outs : List (ℕ × ℕ)} {flown : ℕ → Option Bits} → m.pending ≡ Some more
    → Standing e m i written writes outs flown → AtAmid e m more i written writes outs flown
opened_amid {e} {m} {more} {i} {written} {writes} {outs} {flown} some (between none few b r w) =
    absurd (cc (none, some))
opened_amid {e} {m} {more} {i} {written} {writes} {outs} {flown} some (amid other is few a r w) = record {
  few = few;
  here = subst
      (λ (x : Pending). Amid e (to_come i) written m.answered m.collector x outs flown)
      (same_some other more m.pending is some) a;
  reads_are = r;
  writes_are = w;
}

-- an answer keeps a world valid
keeps_valid : (w v : World) (c : Cmd) (reports : List Report) (answer : Reply) → IsValid w
    → Answers w c reports answer v → IsValid v
keeps_valid w v c reports answer ok answers = answer_valid w c reports answer v ok answers

-- nothing was done yet of a line that was begun
first_so_far : (w : World) (command : Cmd) (left : Pending) (d : CollectorState) (g : ℕ → Option Bits)
    (q : Option (List ℕ)) → (b : BeginsAnswer w command left d g)
    → WritesSoFar left b.begun d g (units_to_come d g) 0 q q
first_so_far w command left d g q b = elim (is_reset left) [
  | inl is ↦ (let asked = reset_asked w command left 0 b.begun (units_to_come d g) b.answering is in
      let running = subst IsRunning (sym asked.same) asked.running in
      so_far_sweeps left b.begun d g (units_to_come d g) 0 q q is
      (no_sweeps b.begun d g q ((world_runs d g b.begun b.represents).1 running) b.valid b.represents))
  | inr other ↦ so_far_units left b.begun d g (units_to_come d g) 0 q q other
      (no_units b.begun d g q b.valid b.represents)
]

-- a line was started in a world that the lines so far lead to
module _ (e : Entry) (xs ys p q : Option (List ℕ)) (command : Cmd) (n : ℕ) (c d : CollectorState)
    (outs others : List (ℕ × ℕ)) (f g : ℕ → Option Bits) (so : Between e xs p n c outs f)
    (given : GivesCommand xs ys command) (stands : StandsWith d others g) (size : MakesAtMostOne c d) where
  one_made : HasMadeAtMost d (n + 1)
  one_made = record {
    made = omega (arith, so.made.made, size.made);
    entries = omega (arith, so.made.entries, size.entries);
  }

  -- it was answered whole
  between_next : StartedAs None command c f d g p q → Between e ys q (n + 1) d others g
  between_next does =
      let writes = does so.world so.valid so.represents so.within in record {
        world = writes.after;
        represents = writes.represents;
        valid = keeps_valid so.world writes.after command writes.reports writes.answer so.valid writes.answers;
        within = writes.within;
        stands = stands_more _ _ _ _ _ _ _ so.world command d g so.stands given writes;
        made = one_made;
        out = stands.out;
      }

  -- its units are to be done
  amid_first : (left : Pending) → units_left d g < 2 ^ 64 → StartedAs (Some left) command c f d g p q
      → Amid e ys q n d left others g
  amid_first left small does =
      let begins = does.0 so.world so.valid so.represents so.within in record {
        world = so.world;
        valid = so.valid;
        asked = xs;
        before = q;
        stands = stands_kept _ _ _ _ _ _ so.world so.stands does.1;
        command = command;
        given = given;
        begun = begins.begun;
        most = units_to_come d g;
        count = 0;
        answering = begins.answering;
        so_far = first_so_far so.world command left d g q begins;
        few = λ other. omega (arith, small);
        made = one_made;
        out = stands.out;
      }

-- a line that is being answered
module _ (e : Entry) (xs p : Option (List ℕ)) (n : ℕ) (c : CollectorState) (left : Pending) (outs : List (ℕ × ℕ))
    (f : ℕ → Option Bits) (a : Amid e xs p n c left outs f) where
  amid_stands : StandsWith c outs f
  amid_stands = record {
    sound = so_far_sound left a.begun c f a.most a.count a.before p a.so_far;
    out = a.out;
  }

  amid_few : left ≢ pending.Reset → done_of left + units_left c f < 2 ^ 64
  amid_few other = let few = a.few other in
      omega (arith, few, done_counted a.world a.command left a.count a.begun a.most a.answering)

  amid_units : left ≢ pending.Reset → WritesUnits a.begun c f a.most a.count a.before p
  amid_units other = units_so_far left a.begun c f a.most a.count a.before p other a.so_far

  amid_sweeps : left ≡ pending.Reset → WritesSweeps a.begun c f a.before p
  amid_sweeps is = sweeps_so_far left a.begun c f a.most a.count a.before p is a.so_far

  amid_asked : left ≡ pending.Reset → IsReset a.world a.command a.begun
  amid_asked is = reset_asked a.world a.command left a.count a.begun a.most a.answering is

  amid_runs : left ≡ pending.Reset → IsRunning a.begun
  amid_runs is = let asked = amid_asked is in subst IsRunning (sym asked.same) asked.running

  amid_breaks : (q : Option (List ℕ)) → EachWorld c f (λ w. BreaksFurther w left p q)
      → WritesFront a.world a.command a.before q
  amid_breaks q breaks = by (is_reset left)
    where
      in_units : left ≢ pending.Reset → (h : WritesUnits a.begun c f a.most a.count a.before p)
          → BreaksFurther h.after left p q → WritesFront a.world a.command a.before q
      in_units other h (broke_units m same allowed b) =
          line_breaks a.world a.command left a.count m a.begun a.most a.before q a.answering other allowed
          (more_breaks a.begun c f a.most a.count m a.before p q h b)
      in_units other h (broke_reset is b) = absurd (other is)

      in_reset : left ≡ pending.Reset → (h : WritesSweeps a.begun c f a.before p) → BreaksFurther h.after left p q
          → WritesFront a.world a.command a.before q
      in_reset is h (broke_units m other allowed b) = absurd (other is)
      in_reset is h (broke_reset same b) =
          let asked = amid_asked is in
          subst (λ (x : Cmd). WritesFront a.world x a.before q) (sym asked.cmd_is)
          (reset_broken a.world a.before q (subst (λ (w : World). BreaksInReset w a.before q) asked.same
          (sweeps_break a.begun c f a.before p q (amid_runs is) h b)))

      by : (left ≡ pending.Reset) ⊎ (left ≢ pending.Reset) → WritesFront a.world a.command a.before q
      by (inl is) =
          let h = amid_sweeps is in in_reset is h (breaks h.after h.valid h.represents)
      by (inr other) =
          let h = amid_units other in in_units other h (breaks h.after h.valid h.represents)

  amid_stops : (q : Option (List ℕ)) → EachWorld c f (λ w. StopsFurther w left p q)
      → WritesStart a.world a.command a.before q
  amid_stops q stops = by (is_reset left)
    where
      in_units : left ≢ pending.Reset → (h : WritesUnits a.begun c f a.most a.count a.before p)
          → StopsFurther h.after left p q → WritesStart a.world a.command a.before q
      in_units other h (stopped_units m same allowed b) =
          line_stops a.world a.command left a.count m a.begun a.most a.before q a.answering other allowed
          (more_stops a.begun c f a.most a.count m a.before p q h b)
      in_units other h (stopped_before kept) =
          line_stops a.world a.command left a.count 0 a.begun a.most a.before q a.answering other (allows_none left)
          (more_stops a.begun c f a.most a.count 0 a.before p q h (none_stopped h.after p q kept))

      in_reset : left ≡ pending.Reset → (h : WritesSweeps a.begun c f a.before p) → StopsFurther h.after left p q
          → WritesStart a.world a.command a.before q
      in_reset is h (stopped_units m other allowed b) = absurd (other is)
      in_reset is h (stopped_before kept) =
          let asked = amid_asked is in
          subst (λ (x : Cmd). WritesStart a.world x a.before q) (sym asked.cmd_is)
          (reset_waits a.world c f a.before p q asked.running
          (subst (λ (w : World). WritesSweeps w c f a.before p) asked.same h) kept)

      by : (left ≡ pending.Reset) ⊎ (left ≢ pending.Reset) → WritesStart a.world a.command a.before q
      by (inl is) =
          let h = amid_sweeps is in in_reset is h (stops h.after h.valid h.represents)
      by (inr other) =
          let h = amid_units other in in_units other h (stops h.after h.valid h.represents)

  made_on : (d : CollectorState) → MakesNone c d → HasMadeAtMost d (n + 1)
  made_on d size = record {
    made = omega (arith, a.made.made, size.made);
    entries = omega (arith, a.made.entries, size.entries);
  }

  -- it goes on
  amid_more : (q : Option (List ℕ)) (d : CollectorState) (now : Pending) (others : List (ℕ × ℕ))
      (g : ℕ → Option Bits) → GoesFurther c f left d g now p q → MakesNone c d → AreOut d.heap.shape others
      → Amid e xs q n d now others g
  amid_more q d now others g (did_units other goes) size out =
      let after_now : now ≢ pending.Reset = λ is. after_units left goes.count other (sym goes.left_is ∙ is) in
      let h = amid_units other in
      record {
        world = a.world;
        valid = a.valid;
        asked = a.asked;
        before = a.before;
        stands = a.stands;
        command = a.command;
        given = a.given;
        begun = a.begun;
        most = a.most;
        count = a.count + goes.count;
        answering = subst (λ (x : Pending). IsAnswering a.world a.command x (a.count + goes.count) a.begun a.most)
            (sym goes.left_is)
            (answers_more a.world a.command left a.count goes.count a.begun a.most a.answering goes.most);
        so_far = so_far_units now a.begun d g a.most (a.count + goes.count) a.before q after_now
            (more_units a.begun c d f g a.most a.count goes.count a.before p q h
            (goes.writes h.after h.valid h.represents));
        few = λ same. (let few = a.few other in omega (arith, few, goes.less));
        made = made_on d size;
        out = out;
      }
  amid_more q d now others g (did_reset is now_is goes) size out = record {
    world = a.world;
    valid = a.valid;
    asked = a.asked;
    before = a.before;
    stands = a.stands;
    command = a.command;
    given = a.given;
    begun = a.begun;
    most = a.most;
    count = a.count;
    answering = subst (λ (x : Pending). IsAnswering a.world a.command x a.count a.begun a.most) (is ∙ sym now_is)
        a.answering;
    so_far = so_far_sweeps now a.begun d g a.most a.count a.before q now_is
        (sweeps_more a.begun c d f g a.before p q (amid_runs is) (amid_sweeps is) goes);
    few = λ other. absurd (other now_is);
    made = made_on d size;
    out = out;
  }

-- what of it was done, by what it is
pub reset_goes : (c : CollectorState) (f : ℕ → Option Bits) (left : Pending) (d : CollectorState) (g : ℕ → Option Bits)
    (p q : Option (List ℕ)) (r : Result Pause AnswerFault) → left ≡ pending.Reset
    → IfOk r (λ t. GoesOnReset c f d (bits_in t g) p q) → IfOk r (λ t. GoesFurther c f left d (bits_in t g) left p q)
reset_goes c f left d g p q (Ok t) is goes = did_reset is is goes
reset_goes c f left d g p q (Err x) is goes = tt

pub units_go : (c : CollectorState) (f : ℕ → Option Bits) (left : Pending) (d : CollectorState) (g : ℕ → Option Bits)
    (now : Pending) (p q : Option (List ℕ)) (r : Result Pause AnswerFault) → left ≢ pending.Reset
    → IfOk r (λ t. Goes c f left d (bits_in t g) now p q) → IfOk r (λ t. GoesFurther c f left d (bits_in t g) now p q)
units_go c f left d g now p q (Ok t) other goes = did_units other goes
units_go c f left d g now p q (Err x) other goes = tt

-- a line of which nothing is left to do
module _ (e : Entry) (xs q r : Option (List ℕ)) (n : ℕ) (d : CollectorState) (left : Pending)
    (outs : List (ℕ × ℕ)) (g : ℕ → Option Bits) (a : Amid e xs q n d left outs g) (over : IsOver left d) where
  amid_ends : Appends q r (last_line left) → Between e xs r (n + 1) d outs g
  amid_ends written =
      let writes = line_writes a.world a.command left a.count a.begun a.most d g a.before q r a.so_far over a.answering
      written in record {
        world = writes.after;
        represents = writes.represents;
        valid = keeps_valid a.world writes.after a.command writes.reports writes.answer a.valid writes.answers;
        within = writes.within;
        stands = stands_more _ _ _ _ _ _ _ a.world a.command d g a.stands a.given writes;
        made = a.made;
        out = a.out;
      }

  amid_fronts : AppendsFront q r (last_line left) → WritesFront a.world a.command a.before r
  amid_fronts written =
      line_fronts a.world a.command left a.count a.begun a.most d g a.before q r a.so_far over a.answering written

-- what the next line asks
pub starts_at : {m : Machine} {i : Input} {written : Option (List ℕ)} {writes : ℕ} {outs : List (ℕ × ℕ)}
    {flown : ℕ → Option Bits} → m.pending ≡ None → IsStanding m i written writes outs flown
    → StandsWith m.collector outs flown
starts_at none (somewhere e s) =
    let so = opened_start none s in
    record {
      sound = record { world = so.here.world; valid = so.here.valid; represents = so.here.represents };
      out = so.here.out;
    }

pub most_at : {m : Machine} {i : Input} {written : Option (List ℕ)} {writes : ℕ} {outs : List (ℕ × ℕ)}
    {flown : ℕ → Option Bits} → m.pending ≡ None → IsStanding m i written writes outs flown
    → m.answered ≤ 4294967295
most_at none (somewhere e s) = (opened_start none s).few

pub room_at : {m : Machine} {i : Input} {written : Option (List ℕ)} {writes : ℕ} {outs : List (ℕ × ℕ)}
    {flown : ℕ → Option Bits} → m.pending ≡ None → m.answered ≢ 4294967295 → IsStanding m i written writes outs flown
    → HasRoomForOne m.collector
room_at none other (somewhere e s) =
    let so = opened_start none s in
    record {
      made = omega (arith, so.here.made.made, so.few, other);
      entries = omega (arith, so.here.made.entries, so.few, other);
    }

-- what going on with a line asks
pub stands_at : {m : Machine} {more : Pending} {i : Input} {written : Option (List ℕ)} {writes : ℕ}
    {outs : List (ℕ × ℕ)} {flown : ℕ → Option Bits} → m.pending ≡ Some more
    → IsStanding m i written writes outs flown → StandsWith m.collector outs flown
stands_at {m} {more} {i} {written} {writes} {outs} {flown} some (somewhere e s) =
    let so = opened_amid some s in
    amid_stands e (to_come i) written m.answered m.collector more outs flown so.here

pub few_at : {m : Machine} {more : Pending} {i : Input} {written : Option (List ℕ)} {writes : ℕ}
    {outs : List (ℕ × ℕ)} {flown : ℕ → Option Bits} → m.pending ≡ Some more
    → IsStanding m i written writes outs flown → more ≢ pending.Reset
    → done_of more + units_left m.collector flown < 2 ^ 64
few_at {m} {more} {i} {written} {writes} {outs} {flown} some (somewhere e s) other =
    let so = opened_amid some s in
    amid_few e (to_come i) written m.answered m.collector more outs flown so.here other

pub below_at : {m : Machine} {more : Pending} {i : Input} {written : Option (List ℕ)} {writes : ℕ}
    {outs : List (ℕ × ℕ)} {flown : ℕ → Option Bits} → m.pending ≡ Some more
    → IsStanding m i written writes outs flown → m.answered < 4294967295
below_at some (somewhere e s) = (opened_amid some s).few

same_none : (flown : ℕ → Option Bits) → ((a : ℕ) → flown a ≡ None) → flown ≡ none_flown
same_none flown still = λ i a. still a i

-- where no arena is out
pub no_flight : {e : Entry} {m : Machine} {i : Input} {written : Option (List ℕ)} {writes : ℕ} {outs : List (ℕ × ℕ)}
    {flown : ℕ → Option Bits} → outs ≡ [] → ((a : ℕ) → flown a ≡ None)
    → Standing e m i written writes outs flown → Standing e m i written writes [] none_flown
no_flight {e} {m} {i} {written} {writes} {outs} {flown} none still s =
    subst (λ (f : ℕ → Option Bits). Standing e m i written writes [] f) (same_none flown still)
    (subst (λ (o : List (ℕ × ℕ)). Standing e m i written writes o flown) none s)

-- from one standing to another, somewhere
pub stands_on : {m k : Machine} {i j : Input} {written text : Option (List ℕ)} {writes fell : ℕ}
    {outs others : List (ℕ × ℕ)} {flown flying : ℕ → Option Bits}
    → ((e : Entry) → Standing e m i written writes outs flown
    → Standing e k j text fell others flying)
    → IsStanding m i written writes outs flown → IsStanding k j text fell others flying
stands_on f (somewhere e s) = somewhere e (f e s)

-- edges are counted from now on
pub new_counted : (m : Machine) (c : CollectorState) (ledger : Option ℕ)
    → c ≡ record m.collector { heap = record m.collector.heap { ledger = ledger } }
    → ((flown : ℕ → Option Bits) (w : World) → Represents m.collector flown w ↔ Represents c flown w) → IsNew m
    → IsNew (record m { collector = c })
new_counted m c ledger is same new =
    let f = opened_first new.collector in
    record {
      collector = first f.valid ((same none_flown first_world).0 f.represents) (record {
        made = subst (λ (d : CollectorState). d.heap.made ≤ 0) (sym is) f.made.made;
        entries = subst (λ (d : CollectorState). length d.heap.shape.weak.entries ≤ 0) (sym is) f.made.entries;
      });
      answered = new.answered;
      pending = new.pending;
    }

-- a replay that begins
pub new_stands : (m : Machine) (i : Input) (written : Option (List ℕ)) (writes : ℕ) → IsNew m → i.held ≡ []
    → Standing (entry_of i.left written i.faults writes) m i written writes [] none_flown
new_stands m i written writes new held =
    let f = opened_first new.collector in
    let none = new.answered in
    between new.pending (omega (arith, none)) (record {
      world = first_world;
      represents = f.represents;
      valid = f.valid;
      within = idle_within m.collector none_flown first_world
          (record { none_running = refl; none_preparing = refl });
      stands = subst (λ (n : ℕ). Stands i.left (to_come i) written written n first_world)
          (sym none) (stands_first i.left written i.held held);
      made = subst (λ (n : ℕ). HasMadeAtMost m.collector n) (sym none) f.made;
      out = out_none m.collector.heap.shape;
    }) refl refl

-- the answers could not be handed on
pub unflushed : (e : Entry) (m k : Machine) (i : Input) (p q : Option (List ℕ)) (f g behind : ℕ) (outs : List (ℕ × ℕ))
    (flown : ℕ → Option Bits) → AtStart e m i p f outs flown → Appends p q [] → Rose f g
    → HasEnded e exit.WriteFault k i q g behind
unflushed e m k i p q f g behind outs flown so kept rose = ended_write e k i q f g behind
    (ends_write _ _ _ _ _ i.held m.answered so.here.world so.here.stands kept) (omega (arith, so.writes_are)) rose

module _ (e : Entry) (m k : Machine) (i j : Input) (q r : Option (List ℕ)) (f g behind : ℕ) (outs : List (ℕ × ℕ))
    (flown : ℕ → Option Bits) (so : AtStart e m i q f outs flown) (x : Exit) where
  written_before : e.writes ≤ f
  written_before = omega (arith, so.writes_are)

  -- the source failed, or had no line more
  pub at_fault : (line : List ℕ) → GivesKnown (to_come i) (to_come j) next.ReadFault line → IsPlain j.held
      → Rose i.faults j.faults → Appends q r [] → HandsOn exit.ReadFault x f g behind → HasEnded e x k j r g behind
  at_fault line given plain rose kept cause =
      ended_read e k x j r f g behind
      (write_after _ _ _ _ _ _ j.held line next.ReadFault m.answered so.here.world so.here.stands given kept)
      written_before (read_after _ _ _ _ _ _ j.held line m.answered so.here.world so.here.stands given plain kept)
      (subst (λ (n : ℕ). Rose n j.faults) so.reads_are rose) cause

  pub at_end : (line : List ℕ) → GivesKnown (to_come i) (to_come j) next.End line → j.faults ≡ i.faults
      → k.collector ≡ m.collector → k.answered ≡ m.answered → Appends q r [] → HandsOn exit.Done x f g behind
      → HasEnded e x k j r g behind
  at_end line given same collector answered kept cause =
      ended_done e k x j r f g behind
      (write_after _ _ _ _ _ _ j.held line next.End m.answered so.here.world so.here.stands given kept)
      written_before
      (done_after _ _ _ _ _ _ j.held line m.answered so.here.world so.here.stands given so.few kept)
      (same ∙ so.reads_are) so.writes_are
      (ends_here e m k _ _ _ _ _ _ _ so.here kept given collector answered) cause

  -- the line is outside the language
  pub at_refusal : (y : Exit) → GivesBad (to_come i) (to_come j)
      → ((m.answered ≡ 4294967295) × (y ≡ exit.TooManyLines))
      ⊎ ((m.answered < 4294967295) × (y ≡ exit.BadLine (m.answered + 1)))
      → Appends q r [] → HandsOn y x f g behind → HasEnded e x k j r g behind
  at_refusal y bad (inl h) kept cause =
      ended_plain e k x j r f g behind
      (refused_write _ _ _ _ _ _ j.held m.answered so.here.world so.here.stands bad kept) written_before
      exit.TooManyLines
      (refused_at_limit _ _ _ _ _ _ j.held m.answered so.here.world so.here.stands bad h.0 kept) limit_is_none
      (subst (λ (z : Exit). HandsOn z x f g behind) h.1 cause)
  at_refusal y bad (inr h) kept cause =
      ended_plain e k x j r f g behind
      (refused_write _ _ _ _ _ _ j.held m.answered so.here.world so.here.stands bad kept) written_before
      (exit.BadLine (m.answered + 1))
      (refused_after _ _ _ _ _ _ j.held m.answered so.here.world h.0 so.here.stands bad kept)
      (bad_is_none (m.answered + 1)) (subst (λ (z : Exit). HandsOn z x f g behind) h.1 cause)

  -- there is a command
  module _ (command : Cmd) (given : GivesCommand (to_come i) (to_come j) command) where
    -- one line too many
    pub at_limit : m.answered ≡ 4294967295 → Appends q r [] → HandsOn exit.TooManyLines x f g behind
        → HasEnded e x k j r g behind
    at_limit most kept cause =
        ended_plain e k x j r f g behind
        (write_after _ _ _ _ _ _ j.held given.line (next.Line given.size) m.answered so.here.world so.here.stands
        given.taken kept) written_before exit.TooManyLines
        (many_after _ _ _ _ _ _ j.held given.line (next.Line given.size) m.answered so.here.world so.here.stands
        given.taken (λ e. cc e) (λ e. cc e) most kept) limit_is_none cause

    -- a prefix of its answer was written
    pub at_break : EachWorld m.collector flown (λ w. WritesFront w command q r) → Rose f g
        → HasEnded e exit.WriteFault k j r g behind
    at_break fronts rose =
        ended_write e k j r f g behind
        (part_after _ _ _ _ _ _ j.held m.answered so.here.world command so.here.stands given
        (fronts so.here.world so.here.valid so.here.represents)) written_before rose

    -- it wanted memory
    pub at_want : (p : Option (List ℕ)) (h : ℕ) → EachWorld m.collector flown (λ w. WritesStart w command q p)
        → f ≤ h → Appends p r [] → HandsOn exit.NoMemory x h g behind → HasEnded e x k j r g behind
    at_want p h starts later kept cause =
        let start = start_kept so.here.world command _ _ _
        (starts so.here.world so.here.valid so.here.represents) kept in
        ended_plain e k x j r h g behind
        (part_after _ _ _ _ _ _ j.held m.answered so.here.world command so.here.stands given
        (start_front so.here.world command _ _ start)) (omega (arith, so.writes_are, later)) exit.NoMemory
        (stop_after _ _ _ _ _ _ j.held m.answered so.here.world command so.here.stands given start)
        memory_is_none cause

-- a line of those that are counted
below : {e : Entry} {m : Machine} {i : Input} {q : Option (List ℕ)} {f : ℕ} {outs : List (ℕ × ℕ)}
    {flown : ℕ → Option Bits} → AtStart e m i q f outs flown → m.answered ≢ 4294967295 → m.answered < 4294967295
below so other = let few = so.few in omega (arith, few, other)

-- it was started: something of it is left to be done
pub line_begun : (e : Entry) (m : Machine) (i j : Input) (q r : Option (List ℕ)) (f g : ℕ) (outs others : List (ℕ × ℕ))
    (flown flying : ℕ → Option Bits) (d : CollectorState) → AtStart e m i q f outs flown → m.answered ≢ 4294967295
    → (command : Cmd) → GivesCommand (to_come i) (to_come j) command → StandsWith d others flying
    → MakesAtMostOne m.collector d → j.faults ≡ i.faults → g ≡ f → (o : Option Pending)
    → StartedAs o command m.collector flown d flying q r → is_some o ≡ true → units_left d flying < 2 ^ 64
    → Standing e (record { collector = d; answered = m.answered; pending = o }) j r g others flying
line_begun e m i j q r f g outs others flown flying d so other command given stands size reads writes None does some
    small = absurd (cc some)
line_begun e m i j q r f g outs others flown flying d so other command given stands size reads writes (Some left) does
    some small =
    amid left refl (below so other)
    (amid_first e _ _ _ _ command m.answered m.collector d outs others flown flying so.here given stands size left
    small does) (reads ∙ so.reads_are) (writes ∙ so.writes_are)

-- or it was answered whole
pub line_answered : (e : Entry) (m : Machine) (i j : Input) (q r : Option (List ℕ)) (f g : ℕ)
    (outs others : List (ℕ × ℕ)) (flown flying : ℕ → Option Bits) (d : CollectorState) → AtStart e m i q f outs flown
    → m.answered ≢ 4294967295 → (command : Cmd) → GivesCommand (to_come i) (to_come j) command
    → StandsWith d others flying → MakesAtMostOne m.collector d → j.faults ≡ i.faults → g ≡ f → (o : Option Pending)
    → StartedAs o command m.collector flown d flying q r → is_some o ≡ false
    → Standing e (record { collector = d; answered = m.answered + 1; pending = o }) j r g others flying
line_answered e m i j q r f g outs others flown flying d so other command given stands size reads writes None does
    none =
    between refl (let less = below so other in omega (arith, less))
    (between_next e _ _ _ _ command m.answered m.collector d outs others flown flying so.here given stands size does)
    (reads ∙ so.reads_are) (writes ∙ so.writes_are)
line_answered e m i j q r f g outs others flown flying d so other command given stands size reads writes (Some left)
    does none = absurd (cc none)

-- a turn less is left
pub turn_begun : (n : ℕ) (old new : Option Pending) → old ≡ None → is_some new ≡ true
    → 2 * (2 ^ 32 - n) + unbegun new < 2 * (2 ^ 32 - n) + unbegun old
turn_begun n None None none some = absurd (cc some)
turn_begun n None (Some left) none some = omega arith
turn_begun n (Some more) new none some = absurd (cc none)

pub turn_whole : (n : ℕ) (old new : Option Pending) → old ≡ None → n ≤ 4294967295
    → 2 * (2 ^ 32 - (n + 1)) + unbegun new < 2 * (2 ^ 32 - n) + unbegun old
turn_whole n None None none most = omega (arith, most)
turn_whole n None (Some left) none most = omega (arith, most)
turn_whole n (Some more) new none most = absurd (cc none)

turn_ended : (n : ℕ) (old : Option Pending) (left : Pending) → old ≡ Some left → n < 4294967295
    → 2 * (2 ^ 32 - (n + 1)) + unbegun None < 2 * (2 ^ 32 - n) + unbegun old
turn_ended n None left some few = absurd (cc some)
turn_ended n (Some more) left some few = omega (arith, few)

pub turn_over : (m k : Machine) (d : CollectorState) (left : Pending) → m.pending ≡ Some left → m.answered < 4294967295
    → k ≡ record { collector = d; answered = m.answered + 1; pending = None } → turns_left k < turns_left m
turn_over m k d left some few is = subst (λ (n : Machine). turns_left n < turns_left m) (sym is)
    (turn_ended m.answered m.pending left some few)

-- where what is left of a line could not be done, or its reports not be written
module _ (e : Entry) (m k : Machine) (left : Pending) (i : Input) (p q : Option (List ℕ)) (f g behind : ℕ)
    (outs : List (ℕ × ℕ)) (flown : ℕ → Option Bits) (so : AtAmid e m left i p f outs flown) where
  pub amid_broken : EachWorld m.collector flown (λ w. BreaksFurther w left p q) → Rose f g
      → HasEnded e exit.WriteFault k i q g behind
  amid_broken breaks rose =
      ended_write e k i q f g behind
      (part_after _ _ _ _ _ _ i.held m.answered so.here.world so.here.command so.here.stands so.here.given
      (amid_breaks e _ p m.answered m.collector left outs flown so.here q breaks))
      (omega (arith, so.writes_are)) rose

  pub amid_wanting : (r : Option (List ℕ)) (h : ℕ) (x : Exit)
      → EachWorld m.collector flown (λ w. StopsFurther w left p q) → f ≤ h → Appends q r []
      → HandsOn exit.NoMemory x h g behind → HasEnded e x k i r g behind
  amid_wanting r h x stops later kept cause =
      let start = start_kept so.here.world so.here.command _ _ _
      (amid_stops e _ p m.answered m.collector left outs flown so.here q stops) kept in
      ended_plain e k x i r h g behind
      (part_after _ _ _ _ _ _ i.held m.answered so.here.world so.here.command so.here.stands so.here.given
      (start_front so.here.world so.here.command _ _ start)) (omega (arith, so.writes_are, later)) exit.NoMemory
      (stop_after _ _ _ _ _ _ i.held m.answered so.here.world so.here.command so.here.stands so.here.given start)
      memory_is_none cause

-- where it went on
amid_now : (e : Entry) (m : Machine) (left now : Pending) (i : Input) (p q : Option (List ℕ)) (f : ℕ)
    (outs others : List (ℕ × ℕ)) (flown flying : ℕ → Option Bits) (d : CollectorState) (t : Pause)
    (so : AtAmid e m left i p f outs flown) → GoesFurther m.collector flown left d (bits_in t flying) now p q
    → MakesNone m.collector d → StandsWith d (outs_in t others) (bits_in t flying)
    → Amid e (to_come i) q m.answered d now (outs_in t others) (bits_in t flying)
amid_now e m left now i p q f outs others flown flying d t so goes size stands =
    amid_more e (to_come i) p m.answered m.collector left outs flown so.here q d now (outs_in t others)
    (bits_in t flying) goes size stands.out

stands_amid : (e : Entry) (m : Machine) (left now : Pending) (i : Input) (p q : Option (List ℕ)) (f g : ℕ)
    (outs others : List (ℕ × ℕ)) (flown flying : ℕ → Option Bits) (d : CollectorState) (t : Pause)
    (so : AtAmid e m left i p f outs flown) → GoesFurther m.collector flown left d (bits_in t flying) now p q
    → MakesNone m.collector d → StandsWith d (outs_in t others) (bits_in t flying) → g ≡ f
    → Standing e (record { collector = d; answered = m.answered; pending = Some now }) i q g
    (outs_in t others) (bits_in t flying)
stands_amid e m left now i p q f g outs others flown flying d t so goes size stands writes =
    amid now refl so.few (amid_now e m left now i p q f outs others flown flying d t so goes size stands)
    so.reads_are (writes ∙ so.writes_are)

-- the loop pauses amid the line
pub amid_pauses : (e : Entry) (m : Machine) (left now : Pending) (i : Input) (p q : Option (List ℕ)) (f g behind : ℕ)
    (outs others : List (ℕ × ℕ)) (flown flying : ℕ → Option Bits) (d : CollectorState) (t : Pause)
    (so : AtAmid e m left i p f outs flown) → GoesFurther m.collector flown left d (bits_in t flying) now p q
    → MakesNone m.collector d → StandsWith d (outs_in t others) (bits_in t flying) → g ≡ f → IsLeftBy t others flying
    → PausesSo t e (record { collector = d; answered = m.answered; pending = Some now }) i q g behind others flying
amid_pauses e m left now i p q f g behind outs others flown flying d pause.None so goes size stands writes by =
    stands_amid e m left now i p q f g outs others flown flying d pause.None so goes size stands writes
amid_pauses e m left now i p q f g behind outs others flown flying d pause.BoardEmpty so goes size stands writes by =
    no_flight by.0 by.1
    (stands_amid e m left now i p q f g outs others flown flying d pause.BoardEmpty so goes size stands writes)
amid_pauses e m left now i p q f g behind outs others flown flying d pause.MarkingBegan so goes size stands writes by =
    no_flight by.0 by.1
    (stands_amid e m left now i p q f g outs others flown flying d pause.MarkingBegan so goes size stands writes)
amid_pauses e m left now i p q f g behind outs others flown flying d (pause.Sweep jobs) so goes size stands writes by =
    record {
      amid = refl;
      stands =
          stands_amid e m left now i p q f g outs others flown flying d (pause.Sweep jobs) so goes size stands writes;
      ascend = by;
    }
amid_pauses e m left now i p q f g behind outs others flown flying d (pause.Over x) so goes size stands writes by =
    absurd by

-- nothing was left to do of the line, and its last line was written, or a prefix of it
pub amid_over : (e : Entry) (m k : Machine) (left now : Pending) (i : Input) (p q r : Option (List ℕ)) (f g h : ℕ)
    (outs others : List (ℕ × ℕ)) (flown flying : ℕ → Option Bits) (d : CollectorState) (t : Pause)
    (so : AtAmid e m left i p f outs flown) → GoesFurther m.collector flown left d (bits_in t flying) now p q
    → MakesNone m.collector d → StandsWith d (outs_in t others) (bits_in t flying) → g ≡ f → t ≡ pause.None
    → (0 < limit_of now → d.run ≡ None)
    → EndsLine (record { collector = d; answered = m.answered; pending = m.pending }) now k q r → h ≡ g
    → Standing e k i r h others flying
amid_over e m k left now i p q r f g h outs others flown flying d pause.None so goes size stands writes none over ended
    later =
    subst (λ (n : Machine). Standing e n i r h others flying) (sym ended.0)
    (between refl (let few = so.few in omega (arith, few))
    (amid_ends e (to_come i) q r m.answered d now others flying
    (amid_now e m left now i p q f outs others flown flying d pause.None so goes size stands) over ended.1)
    so.reads_are (later ∙ writes ∙ so.writes_are))
amid_over e m k left now i p q r f g h outs others flown flying d pause.BoardEmpty so goes size stands writes none over
    ended later = absurd (cc none)
amid_over e m k left now i p q r f g h outs others flown flying d pause.MarkingBegan so goes size stands writes none
    over ended later = absurd (cc none)
amid_over e m k left now i p q r f g h outs others flown flying d (pause.Sweep jobs) so goes size stands writes none
    over ended later = absurd (cc none)
amid_over e m k left now i p q r f g h outs others flown flying d (pause.Over x) so goes size stands writes none over
    ended later = absurd (cc none)

pub amid_unended : (e : Entry) (m k : Machine) (left now : Pending) (i : Input) (p q r : Option (List ℕ))
    (f g h behind : ℕ) (outs others : List (ℕ × ℕ)) (flown flying : ℕ → Option Bits) (d : CollectorState) (t : Pause)
    (so : AtAmid e m left i p f outs flown) → GoesFurther m.collector flown left d (bits_in t flying) now p q
    → MakesNone m.collector d → StandsWith d (outs_in t others) (bits_in t flying) → g ≡ f → t ≡ pause.None
    → (0 < limit_of now → d.run ≡ None) → BreaksLine now q r → Rose g h → HasEnded e exit.WriteFault k i r h behind
amid_unended e m k left now i p q r f g h behind outs others flown flying d pause.None so goes size stands writes none
    over broken rose =
    let here = amid_now e m left now i p q f outs others flown flying d pause.None so goes size stands in
    ended_write e k i r g h behind
    (part_after _ _ _ _ _ _ i.held m.answered here.world here.command here.stands here.given
    (amid_fronts e (to_come i) q r m.answered d now others flying here over broken))
    (let same = so.writes_are in omega (arith, same, writes)) rose
amid_unended e m k left now i p q r f g h behind outs others flown flying d pause.BoardEmpty so goes size stands writes
    none over broken rose = absurd (cc none)
amid_unended e m k left now i p q r f g h behind outs others flown flying d pause.MarkingBegan so goes size stands
    writes none over broken rose = absurd (cc none)
amid_unended e m k left now i p q r f g h behind outs others flown flying d (pause.Sweep jobs) so goes size stands
    writes none over broken rose = absurd (cc none)
amid_unended e m k left now i p q r f g h behind outs others flown flying d (pause.Over x) so goes size stands writes
    none over broken rose = absurd (cc none)
