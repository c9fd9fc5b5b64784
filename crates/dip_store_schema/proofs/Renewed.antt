-- Tables of version 1 that were filled are those of version 2 that say the same.
use Rattle.std.proofs.Common.{◌≡◌, ℕ, true, false, List, [], ◌∷◌, map, refl, sym, ap, ap₂, subst, ◌∙◌, inl, inr, arith}
use Rattle.std.specs.List.{AllByRecursion}
use Rattle.std.proofs.lemmas.Bool.{cases_Bool}
use Rattle.sqlite.specs.Order.{Row}
use Rattle.sqlite.specs.Effect.{Database}
use Rattle.sqlite.specs.Tree.{IsAscending}
use Rattle.dip_map.specs.Charts.{Chart}
use Rattle.dip_desk_state.proofs.KeyedLemmas.{names_tell}
use Rattle.dip_store_tables.proofs.ListLemmas.{all_both, all_map, all_unmap, all_weaker}
use Rattle.dip_store_tables.proofs.MapTexts.{power_text}
use Rattle.dip_store_tables.specs.Coding.{AreApart, HasGame, IsSeatOf, same_seat}
use Rattle.dip_store_tables.specs.Legible.{IsText}
use Rattle.dip_store_tables.specs.Tables.{BallotRow, GameRow, SeatRow, Tables, is_named}
use Rattle.dip_store_sql.specs.Values.{HasText}
use Rattle.dip_store_sql.proofs.Typed.{has_text}
use Rattle.dip_store_sql.specs.Good.{IsGood}
use Rattle.dip_store_sql.specs.Rows.{tables_of}
use Rattle.dip_store_sql.specs.Showing.{show_name, show_vote}
use Rattle.dip_store_sql.proofs.Keyed.{are_apart}
use Rattle.dip_store_tables.specs.Renewing.{WasSeatWritten, WereOurs, old_ballot, old_choice, renewed, voteless}
use Rattle.dip_store_schema.specs.Renewing.{IsVoteReadable, filled, shown_ballot, shown_name}

each_after : {A B C : Type 0} (g : B → C) (f : A → B) (h : A → C) → ((x : A) → g (f x) ≡ h x) → (xs : List A) → map g (map f xs) ≡ map h xs
each_after g f h is [] = refl
each_after g f h is (x ∷ xs) = ap₂ ◌∷◌ (is x) (each_after g f h is xs)

-- what the queries show is read back
pub names_shown : (rows : List Row) (gs : List GameRow) → rows ≡ map show_name gs → map shown_name rows ≡ map (λ g. g.name) gs
names_shown rows gs is = ap (map shown_name) is ∙ each_after shown_name show_name (λ g. g.name) (λ g. refl) gs

pub ballots_shown : (rows : List Row) (ss : List SeatRow) → rows ≡ map show_vote ss → map shown_ballot rows ≡ map old_ballot ss
ballots_shown rows ss is = ap (map shown_ballot) is ∙ each_after shown_ballot show_vote old_ballot (λ s. refl) ss

-- filled with these, they are the tables of version 2
module _ (t : Tables) (no_ballots : t.ballots ≡ []) (no_choices : t.choices ≡ []) where
  pub filled_renewed : (names : List (List ℕ)) (ballots : List BallotRow) → names ≡ map (λ g. g.name) t.games → ballots ≡ map old_ballot t.seats → filled names ballots t ≡ renewed t
  filled_renewed names ballots named voted =
      rw (no_ballots, no_choices, voted, named) (ap (λ cs. record (renewed t) { choices = cs }) (each_after old_choice (λ (g : GameRow). g.name) (λ g. old_choice g.name) (λ g. refl) t.games))

-- no two games, and no two seats, agree on their key
ascending_unmap : {A B : Type 0} (R : B → B → Type 0) (f : A → B) (xs : List A) → IsAscending R (map f xs) → IsAscending (λ a b. R (f a) (f b)) xs
ascending_unmap R f [] up = tt
ascending_unmap R f (x ∷ xs) up = (all_unmap (R (f x)) f xs up.0, ascending_unmap R f xs up.1)

pub were_apart : (t : Tables) (db : Database) → IsGood db → tables_of db.trees ≡ renewed t → AreApart t
were_apart t db good is =
    let now : AreApart (renewed t) = subst AreApart is (are_apart db good) in
    record { games = now.games; seats = ascending_unmap (λ a b. same_seat a b ≡ false) voteless t.seats now.seats }

-- rows of tables that a keeper of version 1 wrote can be read
pub names_readable : (gs : List GameRow) → AllByRecursion (λ g. IsText g.name) gs → AllByRecursion (λ r. HasText r 0) (map show_name gs)
names_readable gs all = all_map (λ r. HasText r 0) show_name gs (all_weaker (λ (g : GameRow). IsText g.name) (λ g. HasText (show_name g) 0) (λ g it. has_text (show_name g) 0 g.name (omega arith) refl it) gs all)

name_text : (gs : List GameRow) (name : List ℕ) → AllByRecursion (λ g. IsText g.name) gs → HasGame gs name → IsText name
name_text [] name all has = absurd (let bad : false ≡ true = has in cc)
name_text (g ∷ gs) name all has = elim (cases_Bool (is_named name g)) [
  | inl e ↦ subst IsText (names_tell.same g.name name e) all.0
  | inr e ↦ name_text gs name all.1 (rw e at has)
]

module _ (m : Chart) (t : Tables) (ours : WereOurs m t) where
  vote_readable : (s : SeatRow) → IsText s.game → IsSeatOf m s × WasSeatWritten s → IsVoteReadable (show_vote s)
  vote_readable s game it = record {
    game = has_text (show_vote s) 0 s.game (omega arith) refl game;
    power = has_text (show_vote s) 1 s.power (omega arith) refl (subst IsText (sym it.0.2) (power_text m ours.map it.0.0 it.0.1));
    vote = elim it.1.vote [ inl e ↦ inl (rw e refl) | inr e ↦ inr (rw e refl) ];
  }

  pub votes_readable : AllByRecursion IsVoteReadable (map show_vote t.seats)
  votes_readable =
      all_map IsVoteReadable show_vote t.seats
      (all_both (λ s. IsText s.game) (λ s. IsSeatOf m s × WasSeatWritten s) (λ s. IsVoteReadable (show_vote s)) vote_readable t.seats
      (all_weaker (λ s. HasGame t.games s.game) (λ (s : SeatRow). IsText s.game) (λ s has. name_text t.games s.game ours.names has) t.seats ours.played)
      (all_both (IsSeatOf m) WasSeatWritten (λ s. IsSeatOf m s × WasSeatWritten s) (λ s a b. (a, b)) t.seats ours.powers ours.seats))
