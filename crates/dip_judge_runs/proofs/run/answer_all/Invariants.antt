use Rattle.std.proofs.Common.{◌≡◌, ◌≤◌, List, length}
use Rattle.std.specs.List.{flat_map}
use Rattle.std.specs.Io.KnownBytes.{Appends}
use Rattle.dip_desk_keeper.specs.Keeping.{IsOpen}
use Rattle.dip_desk_machine.specs.Lawful.{IsLawful}
use Rattle.dip_desk_state.specs.Texts.{reply_text}
use Rattle.dip_desk_state.specs.Records.{Reply}
use Rattle.dip_judge_runs.specs.Runs.{AnswersFront}
use Rattle.dip_judge_runs.proofs.run.answer_all.Given as goal

abbrev pub invariant-letters : goal.invariant-letters
invariant-letters g l = let b = g.K.Keeper.book in record {
  count : b.faults l.keeper ≡ b.faults l.fn.keeper;
  fair : b.honest l.keeper → b.honest l.fn.keeper;
  same_map : b.map_sum l.keeper ≡ b.map_sum l.fn.keeper;
  goes : IsOpen l.fn.map b l.fn.keeper → b.honest l.keeper → IsOpen l.fn.map b l.keeper;
  told : b.told l.fn.keeper ≤ b.told l.keeper;
  lawful : IsOpen l.fn.map b l.fn.keeper → b.honest l.keeper → IsLawful l.fn.map (b.content l.fn.map l.fn.keeper) → IsLawful l.fn.map (b.content l.fn.map l.keeper);
  so_far : IsOpen l.fn.map b l.fn.keeper → b.honest l.keeper → (replies : List Reply)
      × AnswersFront l.fn.map l.fn.input (b.content l.fn.map l.fn.keeper) (b.content l.fn.map l.keeper) replies l.rest
      × Appends (g.W.Write.contents l.fn.writer) (g.W.Write.contents l.writer) (flat_map reply_text replies);
}

abbrev pub decreases-letters : goal.decreases-letters
decreases-letters g l = length l.rest
