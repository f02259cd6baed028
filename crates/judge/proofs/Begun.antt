-- A collection or a compaction that begins or is refused, in a lawful transcript.
use Rattle.std.proofs.Common.{◌≡◌, ◌∙◌, inl, inr, ℕ, ◌<◌, ◌^◌, List, [], ◌∷◌, ◌++◌, None, Contains}
use Rattle.std.proofs.Common.{append_assoc, codes, refl, sym, ap, subst, false, true, arith}
use Rattle.std.specs.List.{flat_map}
use Rattle.gz_names.specs.Zones.{zones_in}
use Rattle.gz_names.specs.declared.zone_sets.ZoneSet.{ZoneSet}
use Rattle.gz_names.specs.declared.commands.Cmd.TheVariants as command
use Rattle.gz_names.specs.declared.replies.Refusal.{Refusal}
use Rattle.gz_names.specs.declared.replies.Reply.{Reply}
use Rattle.gz_names.specs.declared.replies.Reply.TheVariants as reply
use Rattle.gz_names.specs.declared.replies.Report.{Report}
use Rattle.colour_defs.specs.Graph.{GraphState}
use Rattle.colour_defs.specs.Lawful.{Prepares, RefusesToBegin}
use Rattle.colour_defs.specs.Compaction.{Compacts}
use Rattle.colour_defs.specs.Laws.{IsValid}
use Rattle.colour_defs.specs.World.{IsIdle, World}
use Rattle.colour_defs.proofs.ValidRuns.{answer_valid}
use Rattle.colour_defs.proofs.Lists.{contains_cases, contains_head, nothing_in_none}
use Rattle.judge.specs.Compaction.{Packs}
use Rattle.judge.specs.Live.{IsValidLive}
use Rattle.trace_lang.specs.Texts.{reply_text}
use Rattle.judge.specs.Bounds.{arena_count, with_arenas}
use Rattle.judge.specs.Starts.{LeavesOut}
use Rattle.judge.proofs.PlainTexts.{IsNoDump}
use Rattle.judge.specs.Positions.{AreLeft, StandsBetween}
use Rattle.judge.specs.Replies.{AreMade, AsksCompact, Begins, Due, IsRefusal, begun_due, reply as reply_due}
use Rattle.judge.specs.Represents.{Represents}
use Rattle.judge.specs.Sound.{IsSound}
use Rattle.judge.specs.Stages.{Shown, idle, preparing}
use Rattle.judge.specs.Transcripts.{Answer, IsLawfulFrom, lines_of_answer, lines_of_reply, lines_of_reports, told_lines}
use Rattle.judge.proofs.Asked.{ComesNext, before_one}
use Rattle.judge.proofs.Beginning.{represents_begin}
use Rattle.judge.proofs.Compacting.{represents_packed, same_counts}
use Rattle.judge.proofs.Idling.{idle_shown, idle_world, made_shown, made_world, never_both, over_shown}
use Rattle.judge.proofs.Lawfulness.{laws_of, laws_prepare}
use Rattle.judge.proofs.LiveRuns.{answer_live}

-- a refusal, in the judge's world and in one of the definitions
module _ {g : GraphState} {old : Shown} {w : World} (stands : Represents g old w) (Made : Type 0) (zs : List ℕ)
    (made_in : Made → (z : ℕ) → Contains zs z → z < w.graph.zones)
    (made_here : ((z : ℕ) → Contains zs z → z < w.graph.zones) → Made) where
  pub refusal_same : (why : Refusal) (reports : List Report) (answer : Reply) (v : World) → IsRefusal Made old.stage why
      → RefusesToBegin w zs reports answer v → (answer ≡ reply.Refused why) × (reports ≡ []) × (v ≡ w)
  refusal_same why reports answer v (inl a) (inl b) =
      (b.0 ∙ ap reply.Refused (sym a.0), b.2.silent, b.2.same)
  refusal_same why reports answer v (inl a) (inr b) = absurd (a.1 (idle_shown stands b.1))
  refusal_same why reports answer v (inr a) (inl b) = absurd (never_both w b.1 (idle_world stands a.1))
  refusal_same why reports answer v (inr a) (inr b) =
      (b.0 ∙ ap reply.Refused (sym a.0), b.3.silent, b.3.same)

  pub refusal_not : (why : Refusal) → IsRefusal Made old.stage why → IsIdle w
      → ((z : ℕ) → Contains zs z → z < w.graph.zones) → ⊥
  refusal_not why (inl a) rest made = a.1 (idle_shown stands rest)
  refusal_not why (inr a) rest made = a.2 (made_here made)

  pub accepted_not : (reports : List Report) (answer : Reply) (v : World) → old.stage ≡ idle → Made
      → RefusesToBegin w zs reports answer v → ⊥
  accepted_not reports answer v rest made (inl b) = never_both w b.1 (idle_world stands rest)
  accepted_not reports answer v rest made (inr b) = b.2 (made_in made)

-- nothing changes
pub same_answer : (g : GraphState) (old new : Shown) (w v : World) (more : List (List ℕ)) (due : Due) (r : Reply)
    (answer : Answer) → StandsBetween g old w → new ≡ old → due ≡ reply_due (reply_text r)
    → IsNoDump r → answer.0 ≡ [] → answer.1 ≡ r → v ≡ w → IsLawfulFrom v more
    → AreLeft g new due (lines_of_answer answer ++ more)
same_answer g old new w v more due r answer between same is one none reply_is stays goes =
    subst (λ d. AreLeft g new d (lines_of_answer answer ++ more)) (sym is)
    (subst (λ s. AreLeft g s (reply_due (reply_text r))
    (lines_of_answer answer ++ more)) (sym same)
    (before_one g old w more r answer between one none reply_is (subst (λ z. IsLawfulFrom z more) stays goes)))

module _ (g : GraphState) (zones : ZoneSet) (old new : Shown) (w v : World) (answer : Answer) (more : List (List ℕ))
    (due : Due) (between : StandsBetween g old w) (small : zones.bits < 2 ^ 64) (sound : IsSound g new) where
  abbrev stands : Represents g old w
  stands = between.stands.represents

  -- the zones are being prepared then
  begun_stands : (b : Due) → (old.stage ≡ idle) × AreMade g zones × (due ≡ b)
      × LeavesOut g (zones_in zones) old.cells old.black.names new.left_out
      × (new ≡ record old {
        stage = preparing zones;
        left_out = new.left_out;
        walks = None;
        tally = with_arenas (arena_count (zones_in zones) old.owners);
      }) → (u : World) → Prepares w (zones_in zones) u → StandsBetween g new u
  begun_stands b h u prepares =
      let then = represents_begin g zones old new w u between.stands.represents between.stands.laws.valid small h.0 h.3
      h.4 prepares in record {
        stands = record {
          represents = then;
          laws = laws_prepare w (zones_in zones) u between.stands.laws prepares;
          sound = sound;
        };
        not_over = λ over. let is = over_shown then over in
            let stage : new.stage ≡ preparing zones = ap (λ (s : Shown). s.stage) h.4 in
            let ended = is.ended in cc (stage, ended);
        none_told = ap (λ (s : Shown). s.told) h.4 ∙ between.none_told;
      }

  pub asked_gc : ComesNext w (command.Gc zones) answer v more → Begins g zones (begun_due false) old due new
      → AreLeft g new due (lines_of_answer answer ++ more)
  asked_gc next (inl (why, refusal, is, same)) = elim next.lawful [
    | inl h ↦ absurd (refusal_not stands (AreMade g zones) (zones_in zones) (made_world stands zones)
        (made_shown stands zones) why refusal h.2.idle h.2.made)
    | inr h ↦ (let r = refusal_same stands (AreMade g zones) (zones_in zones) (made_world stands zones)
        (made_shown stands zones) why answer.0 answer.1 v refusal h in
        same_answer g old new w v more due (reply.Refused why) answer between same is (λ ls e. cc e) r.1 r.0 r.2
        next.goes_on)
  ]
  asked_gc next (inr b) = elim next.lawful [
    | inl h ↦ subst (λ d. AreLeft g new d (lines_of_answer answer ++ more)) (sym b.2)
        (before_one g new v more reply.GcBegun answer (begun_stands (begun_due false) b v h.2) (λ ls e. cc e) h.1 h.0
        next.goes_on)
    | inr h ↦ absurd (accepted_not stands (AreMade g zones) (zones_in zones) (made_world stands zones)
        (made_shown stands zones) answer.0 answer.1 v b.0 b.1 h)
  ]

  -- a whole collection
  collected_lines : (units : List (List Report)) → answer.0 ≡ flat_map (λ u. u) units → answer.1 ≡ reply.Collected
      → new.told ≡ [] → lines_of_answer answer ++ more
      ≡ told_lines new.told ++ (lines_of_reports (flat_map (λ u. u) units) ++ codes "collected" ∷ more)
  collected_lines units reports is none =
      ap (λ rs. (lines_of_reports rs ++ lines_of_reply answer.1) ++ more) reports
      ∙ ap (λ a. (lines_of_reports (flat_map (λ u. u) units) ++ lines_of_reply a) ++ more) is
      ∙ append_assoc (lines_of_reports (flat_map (λ u. u) units)) (codes "collected" ∷ []) more
      ∙ ap (λ t. told_lines t ++ (lines_of_reports (flat_map (λ u. u) units) ++ codes "collected" ∷ more)) (sym none)

  pub asked_collect : ComesNext w (command.Collect zones) answer v more → Begins g zones (begun_due true) old due new
      → AreLeft g new due (lines_of_answer answer ++ more)
  asked_collect next (inl (why, refusal, is, same)) = elim next.lawful [
    | inl h ↦ absurd (refusal_not stands (AreMade g zones) (zones_in zones) (made_world stands zones)
        (made_shown stands zones) why refusal h.1.begins.idle h.1.begins.made)
    | inr h ↦ (let r = refusal_same stands (AreMade g zones) (zones_in zones) (made_world stands zones)
        (made_shown stands zones) why answer.0 answer.1 v refusal h in
        same_answer g old new w v more due (reply.Refused why) answer between same is (λ ls e. cc e) r.1 r.0 r.2
        next.goes_on)
  ]
  asked_collect next (inr b) = elim next.lawful [
    | inl h ↦ (let then = begun_stands (begun_due true) b h.1.begun h.1.begins in
        subst (λ d. AreLeft g new d (lines_of_answer answer ++ more)) (sym b.2) (record {
          now = h.1.begun;
          stands = then.stands;
          tally = new.tally;
          so_far = [];
          counted = λ e. absurd (cc e);
          done = 0;
          enough = omega arith;
          left = lines_of_reports (flat_map (λ u. u) h.1.units) ++ codes "collected" ∷ more;
          rest = record {
            is_last = false;
            units = h.1.units;
            after = v;
            left = (then.not_over, h.1.done);
            last = codes "collected";
            next = v;
            ends = record { unlimited = refl; idle = h.1.over; last_is = refl; next_is = refl };
            more = more;
            goes_on = next.goes_on;
            lines_are = refl;
          };
          lines_are = collected_lines h.1.units h.1.reports_are h.0 then.none_told;
        }))
    | inr h ↦ absurd (accepted_not stands (AreMade g zones) (zones_in zones) (made_world stands zones)
        (made_shown stands zones) answer.0 answer.1 v b.0 b.1 h)
  ]

-- a compaction
module _ (g : GraphState) (zone : ℕ) (old new : Shown) (w v : World) (answer : Answer) (more : List (List ℕ))
    (due : Due)
    (between : StandsBetween g old w) (sound : IsSound g new) where
  zone_in_world : zone < g.zones → (z : ℕ) → Contains (zone ∷ []) z → z < w.graph.zones
  zone_in_world made z c = elim (contains_cases zone [] z c) [
    | inl e ↦ subst (λ y. y < w.graph.zones) e
        (subst (λ (a : GraphState). zone < a.zones) (sym between.stands.represents.graph_is) made)
    | inr n ↦ absurd (nothing_in_none z n)
  ]

  zone_shown : ((z : ℕ) → Contains (zone ∷ []) z → z < w.graph.zones) → zone < g.zones
  zone_shown made = subst (λ (a : GraphState). zone < a.zones) between.stands.represents.graph_is
      (made zone (contains_head zone []))

  packed_between : (moved given m n : ℕ) → old.stage ≡ idle → Packs g zone old moved given new
      → (lawful : Compacts w zone m n v) → IsValid v → IsValidLive v → StandsBetween g new v
  packed_between moved given m n rest packs lawful valid live =
      let then = represents_packed g zone moved given m n old new w v between.stands.represents rest packs lawful in
      let same = packs.new_is in record {
        stands = record {
          represents = then;
          laws = laws_of w v w.graph between.stands.laws valid live (ap (λ (z : World). z.graph) lawful.world_is)
              (record { registers = refl; slots = refl });
          sound = sound;
        };
        not_over = λ over. let is = over_shown then over in
            let stage : new.stage ≡ idle = ap (λ (s : Shown). s.stage) same ∙ rest in
            let ended = is.ended in cc (stage, ended);
        none_told = ap (λ (s : Shown). s.told) same ∙ between.none_told;
      }

  pub asked_compact : ComesNext w (command.Compact zone) answer v more → AsksCompact g zone old due new
      → AreLeft g new due (lines_of_answer answer ++ more)
  asked_compact next (inl (why, refusal, is, same)) = elim next.lawful [
    | inl h ↦ absurd (refusal_not between.stands.represents (zone < g.zones) (zone ∷ []) zone_in_world zone_shown why
        refusal h.4.idle (zone_in_world (subst (λ (a : GraphState). zone < a.zones) between.stands.represents.graph_is
        h.4.made)))
    | inr h ↦ (let r = refusal_same between.stands.represents (zone < g.zones) (zone ∷ []) zone_in_world zone_shown why
        answer.0 answer.1 v refusal h in
        same_answer g old new w v more due (reply.Refused why) answer between same is (λ ls e. cc e) r.1 r.0 r.2
        next.goes_on)
  ]
  asked_compact next (inr (rest, made, moved, given, is, packs)) = elim next.lawful [
    | inl h ↦ (let counts = same_counts g zone moved given h.0 h.1 old new w v between.stands.represents rest packs h.4
        in
        let laws = between.stands.laws in
        let valid = answer_valid w (command.Compact zone) answer.0 answer.1 v laws.valid (inl h) in
        let live = answer_live w (command.Compact zone) answer.0 answer.1 v laws.valid laws.live (inl h) in
        let then = packed_between moved given h.0 h.1 rest packs h.4 valid live in
        subst (λ d. AreLeft g new d (lines_of_answer answer ++ more)) (sym is)
        (before_one g new v more (reply.Compacted moved given) answer then (λ ls e. cc e) h.3
        (h.2 ∙ (λ i. reply.Compacted (counts.0 i) (counts.1 i))) next.goes_on))
    | inr h ↦ absurd (accepted_not between.stands.represents (zone < g.zones) (zone ∷ []) zone_in_world zone_shown
        answer.0 answer.1 v rest made h)
  ]
