use Rattle.std.proofs.Common.{sym, subst, ap, ◌∙◌}
use Rattle.dip_store_tables.specs.Coding.{AreApart, AreCoded}
use Rattle.dip_store_tables.specs.Counting.{AreCounted}
use Rattle.dip_store_tables.specs.Reading.{state_of}
use Rattle.dip_store_tables.specs.Written.{AreWritten}
use Rattle.dip_store_sql.specs.Rows.{tables_of}
use Rattle.dip_store_sql.proofs.Keyed.{are_apart}
use Rattle.dip_store.proofs.laws.changes_are_made.Goals as goal

pub returns : goal.returns
returns g m ok c old new fits good later is =
    let t = tables_of old.trees in
    let apart = are_apart old good in
    let after = subst AreApart is (are_apart new later) in
    record {
      says = λ coded. ap (state_of m) is ∙ g.state_is_changed.ensures m ok c t fits.0 coded apart after;
      coded = λ coded. subst (AreCoded m) (sym is) (g.tables_stay_coded.ensures m c t fits.0 coded);
      written = λ wide all. subst (AreWritten m) (sym is) (g.tables_stay_written.ensures m c t fits wide after all);
      counted = λ next all. subst AreCounted (sym is) (g.tables_stay_counted.ensures m c t next all apart after);
    }
