use Rattle.std.proofs.Common.{◌∙◌, cond, ℕ, Bool, List, None, ap, option_map, string_bytes, sym}
use Rattle.dip_store_memory.specs.Seen.{part_of}
use Rattle.dip_store_memory.proofs.seen.SeenGames.forget_replaced.Goals as goal

pub returns-then-is_new_part-clause-was : goal.returns-then-is_new_part-clause-was
returns-then-is_new_part-clause-was c =
    c.forget.ensures.was
    ∙ ap (λ (n : List ℕ). option_map (λ p. p.papers) (part_of n c.args.self.now)) c.as_str.ensures.value
    ∙ ap (λ (b : Bool). cond b (option_map (λ p. p.papers) (part_of (string_bytes c.args.change.now.game) c.args.self.now)) None) (sym c.if-is_new_part.true ∙ c.is_new_part.ensures)
