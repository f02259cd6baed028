-- The gray cells and a dump are listed, or refused, in a lawful transcript.
use Rattle.std.proofs.Common.{ℕ, ◌≡◌, ◌∙◌, inl, inr, List, [], ◌∷◌, ◌++◌, map, Contains, refl, sym, ap, subst}
use Rattle.gz_names.specs.declared.names.Name.{Name}
use Rattle.gz_names.specs.declared.commands.Cmd.TheVariants as command
use Rattle.gz_names.specs.declared.dumps.DumpLine.{DumpLine}
use Rattle.gz_names.specs.declared.replies.Refusal.TheVariants as refusal
use Rattle.gz_names.specs.declared.replies.Reply.TheVariants as reply
use Rattle.gz_names.specs.declared.dumps.DumpLine.TheVariants as line
use Rattle.std.specs.List.{flat_map}
use Rattle.colour_defs.specs.Dumps.{IsDump, cell_line, edge_lines, weak_line}
use Rattle.colour_defs.specs.Ends.{Lists}
use Rattle.colour_defs.specs.Graph.{GraphState}
use Rattle.colour_defs.specs.World.{Has, IsPresent, IsSettled as HasSettled, World}
use Rattle.colour_defs.proofs.Lists.{contains_cases, nothing_in_none}
use Rattle.judge.specs.Cells.{HasCell}
use Rattle.judge.specs.Positions.{AreLeft, IsBefore, StandsBetween}
use Rattle.judge.specs.Replies.{Due, Dumps, IsUnmarked, ListsGray, dump as dump_due}
use Rattle.judge.specs.Stages.{IsSettled, Shown}
use Rattle.judge.specs.Transcripts.{Answer, IsLawfulFrom, dump_line, lines_of_answer, lines_of_reply, lines_of_reports}
use Rattle.judge.proofs.Asked.{ComesNext}
use Rattle.judge.proofs.Begun.{same_answer}
use Rattle.judge.proofs.Found.{lists_as}
use Rattle.judge.proofs.OneDump.{one_dump}
use Rattle.judge.proofs.OneList.{one_list}
use Rattle.judge.proofs.PlainTexts.{line_plain, unmarked}
use Rattle.judge.proofs.Settling.{settled_stage, settled_world}
use Rattle.judge.proofs.Standing.{present_is, settled_rests}

dump_unmarked : (ls : List DumpLine) (l : List ℕ) → Contains (map dump_line ls) l → IsUnmarked l
dump_unmarked [] l c = absurd (nothing_in_none l c)
dump_unmarked (d ∷ ds) l c = elim (contains_cases (dump_line d) (map dump_line ds) l c) [
  | inl e ↦ subst IsUnmarked e (unmarked (dump_line d) (line_plain d))
  | inr t ↦ dump_unmarked ds l t
]

-- a dump has its last line at least
pub never_empty : (w : World) (ls : List DumpLine) → IsDump w ls → ls ≡ [] → ⊥
never_empty w ls dump e = end_of (map (cell_line w) dump.cells) (flat_map (edge_lines w.graph) dump.cells)
    (map weak_line dump.weaks) (sym dump.lines_are ∙ e)
  where
    end_of : (xs ys zs : List DumpLine) → xs ++ (ys ++ (zs ++ line.End ∷ [])) ≡ [] → ⊥
    end_of [] [] [] e = cc e
    end_of [] [] (z ∷ zs) e = cc e
    end_of [] (y ∷ ys) zs e = cc e
    end_of (x ∷ xs) ys zs e = cc e

module _ (g : GraphState) (old new : Shown) (w v : World) (answer : Answer) (more : List (List ℕ)) (due : Due)
    (between : StandsBetween g old w) where
  still_world : IsSettled old.stage → HasSettled w
  still_world still = settled_world between.stands.represents between.stands.laws.valid still

  still_stage : HasSettled w → IsSettled old.stage
  still_stage still = settled_stage between.stands.represents between.stands.laws.valid still

  same_grays : IsSettled old.stage → (mine theirs : List Name)
      → Lists (λ x. HasCell old.cells x × (Contains old.black.names x → ⊥)) mine
      → Lists (λ x. IsPresent w x × (Has w.black x → ⊥)) theirs → theirs ≡ mine
  same_grays still mine theirs a b =
      let black = between.stands.represents.black_are still in
      one_list (λ x. HasCell old.cells x × (Contains old.black.names x → ⊥)) theirs mine
      (lists_as (λ x. IsPresent w x × (Has w.black x → ⊥))
      (λ x. HasCell old.cells x × (Contains old.black.names x → ⊥)) theirs
      (λ x h. ((present_is between.stands.represents x).0 h.0, λ c. h.1 ((black.names_are x).1 c)))
      (λ x h. ((present_is between.stands.represents x).1 h.0, λ c. h.1 ((black.names_are x).0 c))) b) a

  pub asked_colours : ComesNext w command.Colours answer v more → ListsGray old due → new ≡ old
      → AreLeft g new due (lines_of_answer answer ++ more)
  asked_colours next (inl (still, names, lists, is)) same = elim next.lawful [
    | inl h ↦ same_answer g old new w v more due (reply.Gray names) answer between same is (λ ls e. cc e) h.4.silent
        (h.1 ∙ ap reply.Gray (same_grays still names h.0 lists h.3)) h.4.same next.goes_on
    | inr h ↦ absurd (h.1 (still_world still))
  ]
  asked_colours next (inr (moving, is)) same = elim next.lawful [
    | inl h ↦ absurd (moving (still_stage h.2))
    | inr h ↦ same_answer g old new w v more due (reply.Refused refusal.Marking) answer between same is (λ ls e. cc e)
        h.2.silent h.0 h.2.same next.goes_on
  ]

  due_lines : (ls : List DumpLine) → (ls ≡ [] → ⊥) → IsBefore g old (map dump_line ls) (lines_of_answer answer ++ more)
      → AreLeft g old (dump_due ls) (lines_of_answer answer ++ more)
  due_lines [] some b = absurd (some refl)
  due_lines (l ∷ ls) some b = b

  pub asked_dump : ComesNext w command.Dump answer v more → Dumps g old due → new ≡ old
      → AreLeft g new due (lines_of_answer answer ++ more)
  asked_dump next (inl (still, lines, lists, is)) same = elim next.lawful [
    | inl h ↦ (let mine = lists w (settled_rests between.stands.represents still) in
        let one : h.0 ≡ lines = one_dump w h.0 lines h.3 mine in
        subst (λ d. AreLeft g new d (lines_of_answer answer ++ more)) (sym is)
        (subst (λ s. AreLeft g s (dump_due lines) (lines_of_answer answer ++ more)) (sym same)
        (due_lines lines (never_empty w lines mine) (record {
          world = w;
          stands = between;
          unmarked = dump_unmarked lines;
          more = more;
          goes_on = subst (λ z. IsLawfulFrom z more) h.4.same next.goes_on;
          lines_are = ap (λ rs. (lines_of_reports rs ++ lines_of_reply answer.1) ++ more) h.4.silent
              ∙ ap (λ a. lines_of_reply a ++ more) (h.1 ∙ ap reply.Dump one);
        }))))
    | inr h ↦ absurd (h.1 (still_world still))
  ]
  asked_dump next (inr (moving, is)) same = elim next.lawful [
    | inl h ↦ absurd (moving (still_stage h.2))
    | inr h ↦ same_answer g old new w v more due (reply.Refused refusal.Marking) answer between same is (λ ls e. cc e)
        h.2.silent h.0 h.2.same next.goes_on
  ]
