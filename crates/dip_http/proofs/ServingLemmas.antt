-- Clients, one after the other, and the history that they make.
use Rattle.std.proofs.Common.{◌≡◌, ◌≤◌, ◌+◌, ◌⊎◌, inl, inr, ℕ, zero, suc, List, [], ◌∷◌, ◌++◌, None, refl, subst, sym, arith}
use Rattle.dip_map.specs.Charts.{Chart}
use Rattle.dip_desk_keeper.specs.Keeping.{Book, IsOpen, WasTold}
use Rattle.dip_desk_keeper.proofs.Keepings.{told_late}
use Rattle.dip_desk_keeper.proofs.Ending.{ends_late, ends_open}
use Rattle.dip_desk_machine.specs.Lawful.{IsLawful}
use Rattle.dip_desk_machine.specs.Machine.{Step}
use Rattle.dip_desk_machine.specs.Published.{MovementsAreDecided}
use Rattle.dip_desk_machine.specs.View.{IsRun, Turn, left_by}
use Rattle.dip_desk_machine.proofs.Publishing.{fair}
use Rattle.dip_desk_state.specs.State.{State}
use Rattle.dip_http.specs.Answering.{IsAnswer}
use Rattle.dip_http.specs.Ends.{Answered, EndsAt, EndsBy, MayTake}
use Rattle.dip_http.specs.Laws.{AreTurns}
use Rattle.dip_http.specs.declared.faults.HttpFault.{HttpFault}
use Rattle.dip_http.specs.declared.faults.HttpFault.TheVariants.{Read, Write, Memory, Keep}
use Rattle.dip_http.specs.Serving.{Meets, MeetsAt, MeetsOne, MeetsTo, Serves, ServesEach, ServesTo, TakesOne, VisitAll, Visits}

-- one client more
pub meets_more : (m : Chart) (n : ℕ) (old mid new : State) → Meets m n old mid → MeetsOne m mid new → Meets m (n + 1) old new
meets_more m n old mid new so_far one = let is : n + 1 ≡ suc n = omega (arith) in subst (λ k. Meets m k old new) (sym is) (mid, so_far, one)

-- a keeper that shows what it keeps after so many clients
pub record HasMet {K : Type 0} (m : Chart) (b : Book K) (n : ℕ) (first now : K) : Type 0 where
  pub opens : IsOpen m b now
  pub meets : Meets m n (b.content m first) (b.content m now)
  pub lawful : IsLawful m (b.content m first) → IsLawful m (b.content m now)

-- and after one more
pub met_more : {K : Type 0} (m : Chart) (b : Book K) (n : ℕ) (first mid new : K) → HasMet m b n first mid → MeetsAt m b mid new
    → (IsLawful m (b.content m mid) → IsLawful m (b.content m new)) → b.shows new → HasMet m b (n + 1) first new
met_more m b n first mid new so one stays shows =
    let is = one.ends.shown shows in
    record {
      opens = is.0;
      meets = meets_more m n _ _ _ so.meets (subst (λ (s : State). MeetsOne m (b.content m mid) s) (sym is.1) one.meets);
      lawful = λ lawful. stays (so.lawful lawful);
    }

-- one history after another
run_on : (m : Chart) (ts us : List Turn) (old mid new : State) → IsRun m old ts mid → IsRun m mid us new → IsRun m old (ts ++ us) new
run_on m [] us old mid new one two = subst (λ (s : State). IsRun m s us new) one two
run_on m (t ∷ ts) us old mid new one two = (one.0, one.1, run_on m ts us (left_by m t) mid new one.2 two)

-- what one client comes to, with its turns
abbrev VisitsSo : Chart → State → State → Type 0
VisitsSo m old new = (turns : List Turn) × IsRun m old turns new × Visits m old turns new

stays : (m : Chart) (old new : State) → new ≡ old → VisitsSo m old new
stays m old new same = ([], same, inl (refl, same))

answered : (m : Chart) → AreTurns m → (input answer : List ℕ) (old new : State) → IsAnswer m input old answer new → VisitsSo m old new
answered m law input answer old new is =
    let turned = law input old new answer is in
    (turned.0, turned.1, inr (record { input = input; answer = answer; answers = is; turns_of = turned.2 }))

ended : (m : Chart) → AreTurns m → (fault : HttpFault) (old new : State) → EndsBy m fault None old new None None → VisitsSo m old new
ended m law Read old new e = stays m old new e.0
ended m law Memory old new e = stays m old new e.0
ended m law Write old new e = answered m law e.input e.answer old new e.answers
ended m law (Keep fault) old new e = stays m old new e.0

visited : (m : Chart) → AreTurns m → (old new : State) → MeetsOne m old new → VisitsSo m old new
visited m law old new (inl same) = stays m old new same
visited m law old new (inr (inl all)) = answered m law all.input all.answer old new all.answers
visited m law old new (inr (inr by)) = ended m law by.0 old new by.1

-- a letter that may have been taken is one more
pub takes_one : (m : Chart) (fault : HttpFault) (old s : State) → EndsBy m fault None old s None None → (t : State) → MayTake m fault None old t → TakesOne m s t
takes_one m Read old s by t may = absurd may
takes_one m Memory old s by t may = absurd may
takes_one m Write old s by t may = absurd may
takes_one m (Keep fault) old s by t may = (may.letter, may.reply, may.post.letter.fits, subst (λ (o : State). Step m o may.letter may.reply t) (sym by.0) may.step)

module _ {K : Type 0} (m : Chart) (b : Book K) where
  -- a client whose call isn't taken
  pub met_nobody : (k : K) → IsOpen m b k → MeetsAt m b k k
  met_nobody k it = record { state = b.content m k; meets = inl refl; ends = ends_open m b k k _ it }

  -- one that was answered
  pub met_well : (old new : K) → IsOpen m b new × Answered m None (b.content m old) (b.content m new) None None → MeetsAt m b old new
  met_well old new it = record { state = b.content m new; meets = inr (inl it.1); ends = ends_open m b old new _ it.0 }

  -- and one that a fault ended
  pub met_ill : (old new : K) (fault : HttpFault) → EndsAt m b fault None old new None None → MeetsAt m b old new
  met_ill old new fault it = record {
    state = it.state;
    meets = inr (inr (fault, it.by));
    ends = ends_late m b old old new it.state _ _ (omega arith) (takes_one m fault (b.content m old) it.state it.by) it.ends;
  }

  -- nobody yet
  pub meets_none : (first : K) → IsOpen m b first → MeetsTo m b 0 first first
  meets_none first it = record { n = 0; most = omega arith; state = b.content m first; meets = refl; ends = inl (ends_open m b first first _ it) }

  -- one client more, where the keeper was open
  on_open : (count : ℕ) (first mid new : K) (so : MeetsTo m b count first mid) → b.content m mid ≡ so.state → b.told first ≤ b.told mid → MeetsAt m b mid new
      → MeetsTo m b (count + 1) first new
  on_open count first mid new so same counts one = record {
    n = so.n + 1;
    most = omega (arith, so.most);
    state = one.state;
    meets = meets_more m so.n (b.content m first) so.state one.state so.meets (subst (λ (s : State). MeetsOne m s one.state) same one.meets);
    ends = inl (ends_late m b first mid new one.state _ _ counts (λ t more. more) one.ends);
  }

  -- or where the disk may have shut it
  on_fault : (count : ℕ) (first mid new : K) → MeetsTo m b count first mid → WasTold b first mid → b.told mid ≤ b.told new → MeetsTo m b (count + 1) first new
  on_fault count first mid new so rises counts = record { n = so.n; most = omega (arith, so.most); state = so.state; meets = so.meets; ends = inr (omega (arith, rises, counts)) }

  -- what the store told in a call it told after the calls before
  pub told_next : (count : ℕ) (first mid new : K) → MeetsTo m b count first mid → b.told first ≤ b.told mid → b.told mid ≤ b.told new → (IsOpen m b mid → WasTold b mid new)
      → WasTold b first new
  told_next count first mid new so early late one = elim so.ends [
    | inl ends ↦ elim ends.goes [
      | inl goes ↦ told_late b first mid new early (one goes.0)
      | inr rises ↦ omega (arith, rises, late)
    ]
    | inr rises ↦ omega (arith, rises, late)
  ]

  pub meets_next : (count : ℕ) (first mid new : K) → MeetsTo m b count first mid → b.told first ≤ b.told mid → b.told mid ≤ b.told new → (IsOpen m b mid → MeetsAt m b mid new)
      → MeetsTo m b (count + 1) first new
  meets_next count first mid new so early late one = elim so.ends [
    | inl ends ↦ elim ends.goes [
      | inl goes ↦ on_open count first mid new so goes.1 early (one goes.0)
      | inr rises ↦ on_fault count first mid new so rises late
    ]
    | inr rises ↦ on_fault count first mid new so rises late
  ]

-- so many clients, with their turns
visits : (m : Chart) → AreTurns m → (n : ℕ) (old new : State) → Meets m n old new → (turns : List Turn) × IsRun m old turns new × VisitAll m n old turns new
visits m law zero old new same = ([], same, (refl, same))
visits m law (suc n) old new so =
    let before = visits m law n old so.0 so.1 in
    let last = visited m law so.0 new so.2 in
    (before.0 ++ last.0, run_on m before.0 last.0 old so.0 new before.1 last.1, (so.0, before.0, last.0, refl, before.2, last.2))

-- and so a history, as fair as each
pub serves : (m : Chart) → AreTurns m → MovementsAreDecided m → (n : ℕ) (old new : State) → Meets m n old new → Serves m n old new
serves m law decided n old new so =
    let it = visits m law n old new so in
    record { turns = it.0; visits = it.2; run = it.1; fair = fair m decided old new it.0 it.1 }

-- at most so many more make a history too
pub serves_to : {K : Type 0} (m : Chart) (b : Book K) → AreTurns m → MovementsAreDecided m → (count most : ℕ) (old new : K) → count ≤ most → MeetsTo m b count old new
    → (b.shows new → HasMet m b count old new) → ServesTo m b most old new
serves_to m b law decided count most old new low so met = record {
  shown = λ shows. (count, low, serves m law decided count _ _ (met shows).meets);
  n = so.n;
  most = omega (arith, so.most, low);
  state = so.state;
  serves = serves m law decided so.n _ _ so.meets;
  ends = so.ends;
}

-- and all of them
pub serves_each : {K : Type 0} (m : Chart) (b : Book K) → AreTurns m → MovementsAreDecided m → (count : ℕ) (old new : K) → MeetsTo m b count old new
    → (b.shows new → HasMet m b count old new) → ServesEach m b count old new
serves_each m b law decided count old new so met = record {
  shown = λ shows. let it = met shows in (it.opens, serves m law decided count _ _ it.meets);
  goes = elim so.ends [
    | inl ends ↦ elim ends.goes [
      | inl goes ↦ inl goes.0.shows
      | inr rises ↦ inr rises
    ]
    | inr rises ↦ inr rises
  ];
}
