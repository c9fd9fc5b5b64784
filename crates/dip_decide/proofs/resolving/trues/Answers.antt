use Rattle.std.proofs.Common.{◌≡◌, ◌∙◌, ap, arith, length, refl, rules}
use Rattle.std.proofs.lemmas.List.{length-replicate}
use Rattle.std.proofs.lemmas.List.FromFn.{length-range_with_len}
use Rattle.dip_map.specs.Charts.{provs}
use Rattle.dip_decide.proofs.resolving.trues.Goals as goal

pub loop-prov-init : goal.loop-prov-init
loop-prov-init c =
    let m = c.args.map.now in
    let e : c.into_iter-prov-iterator.result ≡ provs m = c.into_iter-prov-iterator.ensures.into_iter_gives ∙ c.each_province-prov-items.ensures in
    let l : length c.into_iter-prov-iterator.result ≡ length m.provinces = ap length e ∙ length-range_with_len 0 (length m.provinces) in
    let r : length c.in_ok-found.found.items ≡ length m.provinces = ap length (c.in_ok-found.ensures.items_if_clones_equal (λ y h. search rules)) ∙ length-replicate c.province_count.result _ ∙ c.province_count.ensures in
    record {
      found = rw e refl;
      room = omega (arith, l, r);
    }
