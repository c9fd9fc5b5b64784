use Rattle.std.proofs.Common.{◌∙◌, None, Some, ap, option_map, sym}
use Rattle.std.specs.declared.alloc.Global.{Global}
use Rattle.std.specs.declared.rc.Rc.{Rc}
use Rattle.dip_desk_state.specs.declared.records.Public.{Public}
use Rattle.dip_store_memory.proofs.Seeing.{papers_found, parts_updated}
use Rattle.dip_store_memory.proofs.seen.SeenGames.forget.Goals as goal

pub returns-in_err-part-clause-was : goal.returns-in_err-part-clause-was
returns-in_err-part-clause-was c =
    c.from_residual.ensures
    ∙ ap (option_map (λ (p : Rc Public Global). p.value.papers)) (sym c.in_err-part.was)
    ∙ papers_found c.args.name.now c.swap_remove.result c.self.inside.parts.entries _ c.swap_remove.ensures.value c.self.view_is

pub returns-in_err-part-clause-left : goal.returns-in_err-part-clause-left
returns-in_err-part-clause-left c other = rw (sym c.self.view_is) (parts_updated c.args.name.now c.self.inside.parts c.swap_remove.new.self None c.swap_remove.ensures.updates other)

pub returns-clause-was : goal.returns-clause-was
returns-clause-was c =
    ap (λ (p : Public). Some p.papers) c.deref.ensures
    ∙ ap (option_map (λ (p : Rc Public Global). p.value.papers)) (sym c.in_ok-part.was)
    ∙ papers_found c.args.name.now c.swap_remove.result c.self.inside.parts.entries _ c.swap_remove.ensures.value c.self.view_is

pub returns-clause-left : goal.returns-clause-left
returns-clause-left c other = rw (sym c.self.view_is) (parts_updated c.args.name.now c.self.inside.parts c.swap_remove.new.self None c.swap_remove.ensures.updates other)
