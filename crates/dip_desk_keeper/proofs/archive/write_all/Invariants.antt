use Rattle.std.proofs.Common.{◌+◌, ◌-◌, ◌≤◌, ℕ, length, take}
use Rattle.std.specs.List.{flat_map}
use Rattle.std.specs.Io.KnownBytes.{Appends}
use Rattle.dip_desk_keeper.specs.Papers.{Walks, papers_of}
use Rattle.dip_desk_keeper.proofs.Walking.{went}
use Rattle.dip_desk_state.specs.Bounds.{most_papers}
use Rattle.dip_desk_state.specs.State.{game_at}
use Rattle.dip_desk_keeper.proofs.archive.write_all.Given as goal

abbrev pub invariant-papers : goal.invariant-papers
invariant-papers g l =
    let b = g.K.Keeper.book in
    let papers = papers_of (game_at l.fn.game (b.content l.fn.map l.fn.keeper)) in
    record {
      walks : Walks l.fn.map b l.fn.keeper l.keeper (went ℕ l.count);
      so_far : b.sound l.fn.map l.fn.keeper → b.shows l.keeper
          → (l.count ≤ length papers) × Appends (g.W.Write.contents l.fn.writer) (g.W.Write.contents l.writer) (flat_map (λ p. p) (take l.count papers));
    }

abbrev pub decreases-papers : goal.decreases-papers
decreases-papers g l = (most_papers + 1) - l.count
