-- How far a replay has come.
use Rattle.std.proofs.Common.{◌≡◌, ◌≢◌, ℕ, ◌+◌, ◌<◌, ◌≤◌, List, [], ◌∷◌, ◌++◌, length, take, refl, ap, sym, subst, ◌∙◌}
use Rattle.std.proofs.Common.{arith, Option, Some, None, slice_get, append_assoc, inl, inr, ◌⊎◌}
use Rattle.std.specs.List.{flat_map}
use Rattle.std.specs.Io.KnownBytes.{Appends, prepend_known}
use Rattle.std.proofs.KnownBytes.{Appends-trans, Appends-nil}
use Rattle.std.proofs.lemmas.Grind.{flat_map-append}
use Rattle.std.proofs.lemmas.List.{append-nil, length-append}
use Rattle.gz_io.specs.Lines.{IsPlain, EndsLine, Gives, GivesKnown}
use Rattle.gz_io.specs.declared.reader.Next.{Next}
use Rattle.gz_io.specs.declared.reader.Next.TheVariants as next
use Rattle.gz_names.specs.declared.commands.Cmd.{Cmd}
use Rattle.gz_names.specs.declared.replies.Reply.{Reply}
use Rattle.gz_names.specs.declared.replies.Report.{Report}
use Rattle.cell_bits.specs.declared.bits.Bits.{Bits}
use Rattle.colour_defs.specs.World.{World, first_world}
use Rattle.colour_defs.specs.Lawful.{Answers}
use Rattle.trace_cli.proofs.Runs.{run_more}
use Rattle.colour_defs.specs.Laws.{IsValid}
use Rattle.slice_driver.specs.Collector.{CollectorState}
use Rattle.slice_driver.specs.Represents.{Represents}
use Rattle.slice_driver.specs.Units.{none_flown}
use Rattle.trace_cli.specs.Reaching.{Reached, Stands}
use Rattle.trace_cli.specs.Standing.{HasMadeAtMost, IsFirst, first}
use Rattle.trace_cli.specs.Lines.{lines_of, line_feeds, AreGiven}
use Rattle.command_source.specs.Giving.{GivesBad, GivesCommand, IsBad, not_ascii, too_long, unspelt}
use Rattle.trace_cli.specs.Served.{StandsFor}
use Rattle.trace_cli.specs.Headline.{report_lines, answer_lines, StandForAll, LeadsTo, WritesAnswer, WritesFront}
use Rattle.trace_cli.specs.Headline.{WritesStart, Replays}
use Rattle.trace_cli.specs.declared.exit.Exit.TheVariants as exit
use Rattle.trace_cli.proofs.Lined.{line_given, line_feeds-append, line_feeds-plain, too_long_bad}
use Rattle.trace_cli.proofs.Lined.{not_ascii_bad}

-- what is known of a first collector
pub record First (c : CollectorState) : Type 0 where
  pub valid : IsValid first_world
  pub represents : Represents c none_flown first_world
  pub made : HasMadeAtMost c 0

pub opened_first : {c : CollectorState} → IsFirst c → First c
opened_first (first valid represents made) = record { valid = valid; represents = represents; made = made }

pub stands_first : (left written : Option (List ℕ)) (held : List ℕ) → held ≡ []
    → Stands left (prepend_known held left) written written 0 first_world
stands_first None written held e = tt
stands_first (Some input) written held e = record {
  done = [];
  output = [];
  text = [];
  lines = ap (λ (t : List ℕ). lines_of (t ++ input)) (sym e);
  count = refl;
  wrote = Appends-nil written;
  leads = record { commands = []; answers = []; stand = tt; run = refl; written = refl };
  bytes = ap (λ (t : List ℕ). t ++ input) (sym e);
  whole = inl refl;
}

wrote_more : (i xs : List ℕ) (p q r : Option (List ℕ)) (n : ℕ) (w : World) (h : Reached i xs p q n w) → Appends q r []
    → Appends p r h.output
wrote_more i xs p q r n w h k = rw append-nil at (Appends-trans p q r h.output [] h.wrote k)

pub stands_kept : (a b p q r : Option (List ℕ)) (n : ℕ) (w : World) → Stands a b p q n w → Appends q r []
    → Stands a b p r n w
stands_kept None b p q r n w h k = tt
stands_kept (Some i) None p q r n w h k = absurd h
stands_kept (Some i) (Some xs) p q r n w h k = record {
  done = h.done;
  output = h.output;
  text = h.text;
  lines = h.lines;
  count = h.count;
  wrote = wrote_more i xs p q r n w h k;
  leads = h.leads;
  bytes = h.bytes;
  whole = h.whole;
}

stand_more : (lines : List (List ℕ)) (cs : List Cmd) (line : List ℕ) (c : Cmd) → StandForAll lines cs → StandsFor line c
    → StandForAll (lines ++ line ∷ []) (cs ++ c ∷ [])
stand_more [] [] line c a h = (h, tt)
stand_more (l ∷ lines) (d ∷ cs) line c a h = (a.0, stand_more lines cs line c a.1 h)
stand_more [] (d ∷ cs) line c a h = absurd a
stand_more (l ∷ lines) [] line c a h = absurd a

-- one answer more
leads_more : (lines : List (List ℕ)) (output line : List ℕ) (w v : World) (c : Cmd) (a : List Report × Reply)
    → LeadsTo lines output w → StandsFor line c → Answers w c a.0 a.1 v
    → LeadsTo (lines ++ line ∷ []) (output ++ answer_lines a) v
leads_more lines output line w v c a h s k = record {
  commands = h.commands ++ c ∷ [];
  answers = h.answers ++ a ∷ [];
  stand = stand_more lines h.commands line c h.stand s;
  run = run_more first_world h.commands h.answers w c a.0 a.1 v h.run k;
  written =
      ap (λ (t : List ℕ). t ++ answer_lines a) h.written ∙ sym (flat_map-append answer_lines h.answers (a ∷ []) ∙ ap
      (λ (t : List ℕ). flat_map answer_lines h.answers ++ t) (append-nil (answer_lines a)));
}

-- the bytes of a line that was given
line_bytes : (xs ys line : List ℕ) → IsPlain line → EndsLine xs ys line
    → (text : List ℕ) × (xs ≡ text ++ ys) × ((line_feeds text ≡ 1) ⊎ ((ys ≡ []) × (line_feeds text ≡ 0)))
line_bytes xs ys line p (inl e) = (
  line ++ 10 ∷ [],
  e ∙ sym (append_assoc line (10 ∷ []) ys),
  inl (omega (arith, line_feeds-append line (10 ∷ []), line_feeds-plain line p)),
)
line_bytes xs ys line p (inr e) = (
  line,
  e.0 ∙ sym (append-nil line) ∙ ap
      (λ (t : List ℕ). line ++ t) (sym e.2),
  inr (e.2, line_feeds-plain line p),
)

-- a line takes a byte
line_takes : (xs ys line : List ℕ) → EndsLine xs ys line → xs ≢ []
line_takes xs ys line (inl e) none =
    let l : length xs ≡ length (line ++ 10 ∷ ys) = ap length e in
    let z : length xs ≡ 0 = ap length none in omega (arith, l, z, length-append line (10 ∷ ys))
line_takes xs ys line (inr e) none =
    let l : length xs ≡ length line = ap length e.0 in
    let z : length xs ≡ 0 = ap length none in omega (arith, l, z, e.1)

-- a line more is given
given_more : (a b n : ℕ) (xs ys : List ℕ) → xs ≢ [] → AreGiven a xs n → (b ≡ 1) ⊎ ((ys ≡ []) × (b ≡ 0))
    → AreGiven (a + b) ys (n + 1)
given_more a b n xs ys some (inl h) (inl k) = inl (omega (arith, h, k))
given_more a b n xs ys some (inl h) (inr k) = inr (k.0, omega (arith, h, k.1))
given_more a b n xs ys some (inr h) k = absurd (some h.0)

reached_more : (i xs ys : List ℕ) (p q r : Option (List ℕ)) (n : ℕ) (line : List ℕ) (w : World) (c : Cmd)
    (k : CollectorState) (f : ℕ → Option Bits) → Reached i xs p q n w → IsPlain line → EndsLine xs ys line
    → StandsFor line c → (a : WritesAnswer w c k f q r) → Reached i ys p r (n + 1) a.after
reached_more i xs ys p q r n line w c k f h plain ends s a =
    let b = line_bytes xs ys line plain ends in
    record {
      done = h.done ++ line ∷ [];
      output = h.output ++ answer_lines (a.reports, a.answer);
      text = h.text ++ b.0;
      lines =
          h.lines ∙ ap (λ (u : List (List ℕ)). h.done ++ u) (line_given xs ys line plain ends)
          ∙ sym (append_assoc h.done (line ∷ []) (lines_of ys));
      count = omega (arith, length-append h.done (line ∷ []), h.count);
      wrote = Appends-trans p q r h.output (answer_lines (a.reports, a.answer)) h.wrote a.written;
      leads = leads_more h.done h.output line w a.after c (a.reports, a.answer) h.leads s a.answers;
      bytes = h.bytes ∙ ap (λ (t : List ℕ). h.text ++ t) b.1 ∙ sym (append_assoc h.text b.0 ys);
      whole = subst (λ (m : ℕ). AreGiven m ys (n + 1)) (sym (line_feeds-append h.text b.0))
          (given_more _ _ n xs ys (line_takes xs ys line ends) h.whole b.2);
    }

pub stands_more : (a b c p q r : Option (List ℕ)) (n : ℕ) (w : World) (d : Cmd) (k : CollectorState)
    (f : ℕ → Option Bits) → Stands a b p q n w → GivesCommand b c d → (e : WritesAnswer w d k f q r)
    → Stands a c p r (n + 1) e.after
stands_more None b c p q r n w d k f h t e = tt
stands_more (Some i) None c p q r n w d k f h t e = absurd h
stands_more (Some i) (Some xs) None p q r n w d k f h t e = absurd t.taken
stands_more (Some i) (Some xs) (Some ys) p q r n w d k f h t e =
    reached_more i xs ys p q r n t.line w d k f h t.taken.2 t.taken.3 t.spelt e

seam : (done : List (List ℕ)) (line : List ℕ) (rest : List (List ℕ))
    → slice_get (done ++ (line ∷ rest)) (length done) ≡ Some line
seam [] line rest = refl
seam (x ∷ done) line rest = seam done line rest

front : (done rest : List (List ℕ)) → take (length done) (done ++ rest) ≡ done
front [] rest = refl
front (x ∷ done) rest = ap (λ (u : List (List ℕ)). x ∷ u) (front done rest)

-- the lines that were answered are the first n
first_n : (i xs : List ℕ) (p q : Option (List ℕ)) (n : ℕ) (w : World) (h : Reached i xs p q n w)
    → LeadsTo (take n (lines_of i)) h.output w
first_n i xs p q n w h =
    subst (λ (u : List (List ℕ)). LeadsTo u h.output w)
    (sym (subst (λ (k : ℕ). take k (lines_of i) ≡ h.done) h.count (ap
    (λ (u : List (List ℕ)). take (length h.done) u) h.lines ∙ front h.done (lines_of xs)))) h.leads

-- the next line is the n-th
next_is :
    (i xs : List ℕ) (p q : Option (List ℕ)) (n : ℕ) (w : World) (line : List ℕ) (more : List (List ℕ))
    (h : Reached i xs p q n w)
    → lines_of xs ≡ line ∷ more → slice_get (lines_of i) n ≡ Some line
next_is i xs p q n w line more h e =
    subst (λ (m : ℕ). slice_get (lines_of i) m ≡ Some line) h.count (ap
    (λ (u : List (List ℕ)). slice_get u (length h.done)) (h.lines ∙ ap (λ (u : List (List ℕ)). h.done ++ u) e)
    ∙ seam h.done line more)

no_more : (held ys : List ℕ) → held ++ ys ≡ [] → ys ≡ []
no_more [] ys e = e
no_more (b ∷ held) ys e = absurd (cc e)

-- bytes were taken that are held
given_held : (a n : ℕ) (held ys xs : List ℕ) → held ++ ys ≡ xs → AreGiven a xs n → AreGiven a ys n
given_held a n held ys xs t (inl h) = inl h
given_held a n held ys xs t (inr h) = inr (no_more held ys (t ∙ h.0), h.1)

-- the exits: where nothing more was taken
pub ends_write : (a l p q r : Option (List ℕ)) (held : List ℕ) (n : ℕ) (w : World)
    → Stands a (prepend_known held l) p q n w → Appends q r [] → Replays a l p r exit.WriteFault
ends_write None l p q r held n w h k = tt
ends_write (Some i) None p q r held n w h k = absurd h
ends_write (Some i) (Some ys) p q r held n w h k = (
  h.output,
  wrote_more i (held ++ ys) p q r n w h k,
  record {
    answered = n;
    whole = h.output;
    part = [];
    world = w;
    parts = sym (append-nil h.output);
    leads = first_n i (held ++ ys) p q n w h;
    last = inl refl;
  },
)

-- where the next line was asked for
pub write_after : (a b l p q r : Option (List ℕ)) (held line : List ℕ) (res : Next) (n : ℕ) (w : World)
    → Stands a b p q n w → GivesKnown b (prepend_known held l) res line → Appends q r []
    → Replays a l p r exit.WriteFault
write_after None b l p q r held line res n w h t k = tt
write_after (Some i) None l p q r held line res n w h t k = absurd h
write_after (Some i) (Some xs) None p q r held line res n w h t k = absurd t
write_after (Some i) (Some xs) (Some ys) p q r held line res n w h t k = (
  h.output,
  wrote_more i xs p q r n w h k,
  record {
    answered = n;
    whole = h.output;
    part = [];
    world = w;
    parts = sym (append-nil h.output);
    leads = first_n i xs p q n w h;
    last = inl refl;
  },
)

pub done_after : (a b l p q r : Option (List ℕ)) (held line : List ℕ) (n : ℕ) (w : World) → Stands a b p q n w
    → GivesKnown b (prepend_known held l) next.End line → n ≤ 4294967295 → Appends q r [] → Replays a l p r exit.Done
done_after None b l p q r held line n w h t most k = tt
done_after (Some i) None l p q r held line n w h t most k = absurd h
done_after (Some i) (Some xs) None p q r held line n w h t most k = absurd t
done_after (Some i) (Some xs) (Some ys) p q r held line n w h t most k =
    let all : lines_of i ≡ h.done = h.lines ∙ ap (λ (u : List ℕ). h.done ++ lines_of u) t.0 ∙ append-nil h.done in (
      h.output,
      wrote_more i xs p q r n w h k,
      record {
        lawful = (w, subst (λ (u : List (List ℕ)). LeadsTo u h.output w) (sym all) h.leads);
        read = no_more held ys t.1;
        few = omega (arith, (let e : length (lines_of i) ≡ length h.done = ap length all in e), h.count, most);
      },
    )

pub read_after : (a b l p q r : Option (List ℕ)) (held line : List ℕ) (n : ℕ) (w : World) → Stands a b p q n w
    → GivesKnown b (prepend_known held l) next.ReadFault line → IsPlain held → Appends q r []
    → Replays a l p r exit.ReadFault
read_after None b l p q r held line n w h t plain k = tt
read_after (Some i) None l p q r held line n w h t plain k = absurd h
read_after (Some i) (Some xs) None p q r held line n w h t plain k = absurd t
read_after (Some i) (Some xs) (Some ys) p q r held line n w h t plain k = (
  h.output,
  wrote_more i xs p q r n w h k,
  record {
    answered = n;
    taken = h.text ++ held;
    bytes = h.bytes ∙ ap (λ (u : List ℕ). h.text ++ u) (sym t) ∙ sym (append_assoc h.text held ys);
    whole =
        let same : line_feeds h.text ≡ line_feeds (h.text ++ held) =
        omega (arith, line_feeds-append h.text held, line_feeds-plain held plain) in
        subst (λ (m : ℕ). AreGiven m ys n) same (given_held _ n held ys xs t h.whole);
    lawful = (w, first_n i xs p q n w h);
  },
)

gives_line : (xs ys line : List ℕ) (res : Next) → Gives xs ys res line → res ≢ next.End
    → res ≢ next.ReadFault → (l : List ℕ) × (more : List (List ℕ)) × (lines_of xs ≡ l ∷ more)
gives_line xs ys line (next.Line m) g e f = (line, lines_of ys, line_given xs ys line g.2 g.3)
gives_line xs ys line next.End g e f = absurd (e refl)
gives_line xs ys line next.TooLong g e f = let b = too_long_bad xs g.1 in (b.0, b.1, b.2)
gives_line xs ys line next.NotAscii g e f = let b = not_ascii_bad xs g.1 in (b.0, b.1, b.2)
gives_line xs ys line next.ReadFault g e f = absurd (f refl)

many :
    (i xs : List ℕ) (p q : Option (List ℕ)) (n : ℕ) (w : World) (l : List ℕ) (more : List (List ℕ))
    (h : Reached i xs p q n w)
    → n ≡ 4294967295 → lines_of xs ≡ l ∷ more → 4294967295 < length (lines_of i)
many i xs p q n w l more h e m =
    let s : length (lines_of i) ≡ length (h.done ++ (l ∷ more)) = ap length (h.lines ∙ ap
    (λ (u : List (List ℕ)). h.done ++ u) m) in omega (arith, s, length-append h.done (l ∷ more), h.count, e)

pub many_after : (a b l p q r : Option (List ℕ)) (held line : List ℕ) (res : Next) (n : ℕ) (w : World)
    → Stands a b p q n w → GivesKnown b (prepend_known held l) res line → res ≢ next.End → res ≢ next.ReadFault
    → n ≡ 4294967295 → Appends q r [] → Replays a l p r exit.TooManyLines
many_after None b l p q r held line res n w h t x y e k = tt
many_after (Some i) None l p q r held line res n w h t x y e k = absurd h
many_after (Some i) (Some xs) None p q r held line res n w h t x y e k = absurd t
many_after (Some i) (Some xs) (Some ys) p q r held line res n w h t x y e k =
    let g = gives_line xs (held ++ ys) line res t x y in (
      h.output,
      wrote_more i xs p q r n w h k,
      record {
        many = many i xs p q n w g.0 g.1 h e g.2;
        lawful = (w, subst (λ (m : ℕ). LeadsTo (take m (lines_of i)) h.output w) e (first_n i xs p q n w h));
      },
    )

too_long_after : (a b l p q r : Option (List ℕ)) (held line : List ℕ) (n : ℕ) (w : World)
    → n < 4294967295 → Stands a b p q n w → GivesKnown b (prepend_known held l) next.TooLong line → Appends q r []
    → Replays a l p r (exit.BadLine (n + 1))
too_long_after None b l p q r held line n w few h t k = tt
too_long_after (Some i) None l p q r held line n w few h t k = absurd h
too_long_after (Some i) (Some xs) None p q r held line n w few h t k = absurd t
too_long_after (Some i) (Some xs) (Some ys) p q r held line n w few h t k =
    let g = too_long_bad xs t.1 in (
      h.output,
      wrote_more i xs p q r n w h k,
      record {
        answered = n;
        line = g.0;
        number = refl;
        few = few;
        next = next_is i xs p q n w g.0 g.1 h g.2;
        bad = g.3;
        lawful = (w, first_n i xs p q n w h);
      },
    )

not_ascii_after : (a b l p q r : Option (List ℕ)) (held line : List ℕ) (n : ℕ) (w : World)
    → n < 4294967295 → Stands a b p q n w → GivesKnown b (prepend_known held l) next.NotAscii line → Appends q r []
    → Replays a l p r (exit.BadLine (n + 1))
not_ascii_after None b l p q r held line n w few h t k = tt
not_ascii_after (Some i) None l p q r held line n w few h t k = absurd h
not_ascii_after (Some i) (Some xs) None p q r held line n w few h t k = absurd t
not_ascii_after (Some i) (Some xs) (Some ys) p q r held line n w few h t k =
    let g = not_ascii_bad xs t.1 in (
      h.output,
      wrote_more i xs p q r n w h k,
      record {
        answered = n;
        line = g.0;
        number = refl;
        few = few;
        next = next_is i xs p q n w g.0 g.1 h g.2;
        bad = g.3;
        lawful = (w, first_n i xs p q n w h);
      },
    )

bad_after : (a b l p q r : Option (List ℕ)) (held line : List ℕ) (n m : ℕ) (w : World) → n < 4294967295
    → Stands a b p q n w → GivesKnown b (prepend_known held l) (next.Line m) line → IsBad line → Appends q r []
    → Replays a l p r (exit.BadLine (n + 1))
bad_after None b l p q r held line n m w few h t bad k = tt
bad_after (Some i) None l p q r held line n m w few h t bad k = absurd h
bad_after (Some i) (Some xs) None p q r held line n m w few h t bad k = absurd t
bad_after (Some i) (Some xs) (Some ys) p q r held line n m w few h t bad k = (
  h.output,
  wrote_more i xs p q r n w h k,
  record {
    answered = n;
    line = line;
    number = refl;
    few = few;
    next = next_is i xs p q n w line (lines_of (held ++ ys)) h (line_given xs (held ++ ys) line t.2 t.3);
    bad = bad;
    lawful = (w, first_n i xs p q n w h);
  },
)

pub part_after : (a b l p q r : Option (List ℕ)) (held : List ℕ) (n : ℕ) (w : World) (c : Cmd)
    → Stands a b p q n w → GivesCommand b (prepend_known held l) c
    → WritesFront w c q r → Replays a l p r exit.WriteFault
part_after None b l p q r held n w c h t k = tt
part_after (Some i) None l p q r held n w c h t k = absurd h
part_after (Some i) (Some xs) None p q r held n w c h t k = absurd t.taken
part_after (Some i) (Some xs) (Some ys) p q r held n w c h t k = (
  h.output ++ k.written.0,
  Appends-trans p q r h.output k.written.0 h.wrote k.written.3,
  record {
    answered = n;
    whole = h.output;
    part = k.written.0;
    world = w;
    parts = refl;
    leads = first_n i xs p q n w h;
    last = inr (record {
      line = t.line;
      command = c;
      text = k.text;
      rest = k.written.1;
      next = next_is i xs p q n w t.line (lines_of (held ++ ys)) h
          (line_given xs (held ++ ys) t.line t.taken.2 t.taken.3);
      stands = t.spelt;
      answers = k.answers;
      front = k.written.2;
    });
  },
)

pub stop_after : (a b l p q r : Option (List ℕ)) (held : List ℕ) (n : ℕ) (w : World) (c : Cmd)
    → Stands a b p q n w → GivesCommand b (prepend_known held l) c
    → WritesStart w c q r → Replays a l p r exit.NoMemory
stop_after None b l p q r held n w c h t k = tt
stop_after (Some i) None l p q r held n w c h t k = absurd h
stop_after (Some i) (Some xs) None p q r held n w c h t k = absurd t.taken
stop_after (Some i) (Some xs) (Some ys) p q r held n w c h t k = (
  h.output ++ report_lines k.reports,
  Appends-trans p q r h.output (report_lines k.reports) h.wrote k.written,
  record {
    answered = n;
    whole = h.output;
    part = report_lines k.reports;
    world = w;
    parts = refl;
    leads = first_n i xs p q n w h;
    last = inr (record {
      line = t.line;
      command = c;
      accepted = k.accepted;
      reports = k.reports;
      next = next_is i xs p q n w t.line (lines_of (held ++ ys)) h
          (line_given xs (held ++ ys) t.line t.taken.2 t.taken.3);
      stands = t.spelt;
      starts = k.starts;
      part_is = refl;
    });
  },
)

-- a line outside the language: whatever is wrong with it
pub refused_after : (a b l p q r : Option (List ℕ)) (held : List ℕ) (n : ℕ) (w : World) → n < 4294967295
    → Stands a b p q n w → GivesBad b (prepend_known held l) → Appends q r [] → Replays a l p r (exit.BadLine (n + 1))
refused_after a b l p q r held n w few h (too_long line t) k =
    too_long_after a b l p q r held line n w few h t k
refused_after a b l p q r held n w few h (not_ascii line t) k =
    not_ascii_after a b l p q r held line n w few h t k
refused_after a b l p q r held n w few h (unspelt line m t bad) k =
    bad_after a b l p q r held line n m w few h t bad k

-- where it is one line too many
pub refused_at_limit : (a b l p q r : Option (List ℕ)) (held : List ℕ) (n : ℕ) (w : World)
    → Stands a b p q n w → GivesBad b (prepend_known held l) → n ≡ 4294967295 → Appends q r []
    → Replays a l p r exit.TooManyLines
refused_at_limit a b l p q r held n w h (too_long line t) most k =
    many_after a b l p q r held line next.TooLong n w h t (λ e. cc e) (λ e. cc e) most k
refused_at_limit a b l p q r held n w h (not_ascii line t) most k =
    many_after a b l p q r held line next.NotAscii n w h t (λ e. cc e) (λ e. cc e) most k
refused_at_limit a b l p q r held n w h (unspelt line m t bad) most k =
    many_after a b l p q r held line (next.Line m) n w h t (λ e. cc e) (λ e. cc e) most k

-- and where the sink fails then
pub refused_write : (a b l p q r : Option (List ℕ)) (held : List ℕ) (n : ℕ) (w : World)
    → Stands a b p q n w → GivesBad b (prepend_known held l) → Appends q r [] → Replays a l p r exit.WriteFault
refused_write a b l p q r held n w h (too_long line t) k = write_after a b l p q r held line next.TooLong n w h t k
refused_write a b l p q r held n w h (not_ascii line t) k = write_after a b l p q r held line next.NotAscii n w h t k
refused_write a b l p q r held n w h (unspelt line m t bad) k =
    write_after a b l p q r held line (next.Line m) n w h t k

-- the start of an answer stays so where nothing more is written
pub start_kept : (w : World) (c : Cmd) (p q r : Option (List ℕ)) → WritesStart w c p q → Appends q r []
    → WritesStart w c p r
start_kept w c p q r h k = record {
  accepted = h.accepted;
  reports = h.reports;
  starts = h.starts;
  written = rw append-nil at (Appends-trans p q r (report_lines h.reports) [] h.written k);
}

-- and it is a prefix of an answer
pub start_front : (w : World) (c : Cmd) (p q : Option (List ℕ)) → WritesStart w c p q → WritesFront w c p q
start_front w c p q h = record {
  text = report_lines h.reports;
  answers = inr (h.reports, h.starts, refl);
  written = (report_lines h.reports, [], sym (append-nil (report_lines h.reports)), h.written);
}

pub usage_ends : (left written : Option (List ℕ)) → Replays left left written written exit.Usage
usage_ends None written = tt
usage_ends (Some input) written = ([], Appends-nil written, record { none = refl; kept = refl })

-- memory was wanted before anything was read
pub memory_ends : (left p q : Option (List ℕ)) → Appends p q [] → Replays left left p q exit.NoMemory
memory_ends None p q kept = tt
memory_ends (Some input) p q kept = (
  [],
  kept,
  record {
    answered = 0;
    whole = [];
    part = [];
    world = first_world;
    parts = refl;
    leads = record { commands = []; answers = []; stand = tt; run = refl; written = refl };
    last = inl (refl, refl, refl);
  },
)
