-- Runs over an input, turn by turn.
use Rattle.std.proofs.Common.{◌≡◌, ℕ, List, [], ◌∷◌, ◌++◌, Option, refl, sym, ap, subst, ◌∙◌, append-nil, take}
use Rattle.std.proofs.lemmas.List.Concat.{flat_map-append}
use Rattle.std.specs.List.{flat_map}
use Rattle.std.specs.Io.KnownBytes.{Appends}
use Rattle.std.proofs.KnownBytes.{Appends-trans}
use Rattle.dip_letters.specs.Input.{IsNext}
use Rattle.dip_letters.specs.declared.letters.Next.{Next}
use Rattle.dip_letters.specs.declared.letters.Next.TheVariants.{Taken, Fault, End}
use Rattle.dip_map.specs.Charts.{Chart}
use Rattle.dip_desk_machine.specs.Mail.{Mail, mail}
use Rattle.dip_desk_keeper.specs.Keeping.{Book, Ends}
use Rattle.dip_desk.specs.Running.{Answers}
use Rattle.dip_desk_state.specs.State.{State}
use Rattle.dip_desk_machine.specs.View.{IsHistory}
use Rattle.dip_desk_machine.proofs.Histories.{history_more}
use Rattle.dip_desk_machine.proofs.Publishing.{fair}
use Rattle.dip_desk_machine.specs.Published.{MovementsAreDecided}
use Rattle.dip_desk_state.specs.Texts.{reply_text}
use Rattle.dip_desk_state.specs.Records.{Reply}
use Rattle.dip_judge_runs.specs.RunFaults.{IsTakingFault}
use Rattle.dip_judge_runs.specs.Runs.{AnswersFront, AreReplies, Finds, IsAnswered, IsTurn, IsWritten, Stops, StopsAt, TakesNext, behind, letters_in}
use Rattle.dip_judge_runs.specs.declared.run.RunFault.{RunFault}
use Rattle.dip_judge_runs.specs.declared.run.RunFault.TheVariants.{Read, TooLong, Write, Memory, Keep}

finds_more : (input : List ℕ) (found : List Next) (rest : List ℕ) (next : Next) → Finds input found rest → IsNext rest next
    → Finds input (found ++ next ∷ []) (behind next)
finds_more input [] rest next finds here = (subst (λ (x : List ℕ). IsNext x next) (sym finds) here, refl)
finds_more input (f ∷ fs) rest next finds here = (finds.0, finds_more (behind f) fs rest next finds.1 here)

letters_more : (found : List Next) (next : Next) → letters_in (found ++ next ∷ []) ≡ letters_in found ++ letters_in (next ∷ [])
letters_more [] next = refl
letters_more (Taken k r ∷ fs) next = ap (λ (ms : List Mail). mail k ∷ ms) (letters_more fs next)
letters_more (Fault f r ∷ fs) next = letters_more fs next
letters_more (End ∷ fs) next = letters_more fs next

replies_more : (found : List Next) (next : Next) (told all t a : List Reply) → AreReplies found told all → AreReplies (next ∷ []) t a
    → AreReplies (found ++ next ∷ []) (told ++ t) (all ++ a)
replies_more [] next told all t a none one =
    subst (λ (x : List Reply). AreReplies (next ∷ []) (x ++ t) (all ++ a)) (sym none.0)
    (subst (λ (x : List Reply). AreReplies (next ∷ []) t (x ++ a)) (sym none.1) one)
replies_more (Taken k r ∷ fs) next told all t a h one =
    (h.0, h.1 ++ t, h.2 ++ a, ap (λ (x : List Reply). x ++ t) h.3, ap (λ (x : List Reply). x ++ a) h.4, replies_more fs next h.1 h.2 t a h.5 one)
replies_more (Fault f r ∷ fs) next told all t a h one = (h.0 ++ a, ap (λ (x : List Reply). x ++ a) h.1, replies_more fs next told h.0 t a h.2 one)
replies_more (End ∷ fs) next told all t a h one = absurd h

-- nothing is found yet
pub front_of : (m : Chart) → MovementsAreDecided m → (input : List ℕ) (old : State) → AnswersFront m input old old [] input
front_of m decided input old = record {
  found = [];
  finds = refl;
  told = [];
  history = ([], record { run = refl; asked = refl; answered = refl }, fair m decided old old [] refl);
  replies = (refl, refl);
}

-- one turn more
pub front_more : (m : Chart) → MovementsAreDecided m → (input : List ℕ) (old : State) (all : List Reply) (mid : State) (rest : List ℕ) (reply : Reply) (new : State) (after : List ℕ)
    → AnswersFront m input old mid all rest → IsTurn m rest mid reply new after → AnswersFront m input old new (all ++ reply ∷ []) after
front_more m decided input old all mid rest reply new after front turn = go turn.0 turn.1 turn.2
  where
    go : (next : Next) → IsNext rest next → IsAnswered m mid next reply new after → AnswersFront m input old new (all ++ reply ∷ []) after
    go (Taken l r) here done =
        let more = history_more m old mid new (letters_in front.found) front.told (mail l) reply (front.history.0, front.history.1) done.0 in record {
          found = front.found ++ Taken l r ∷ [];
          finds = subst (λ (x : List ℕ). Finds input (front.found ++ Taken l r ∷ []) x) done.1 (finds_more input front.found rest (Taken l r) front.finds here);
          told = front.told ++ reply ∷ [];
          history = (
            more.0,
            subst (λ (ms : List Mail). IsHistory m old ms (front.told ++ reply ∷ []) new more.0) (sym (letters_more front.found (Taken l r))) more.1,
            fair m decided old new more.0 more.1.run,
          );
          replies = replies_more front.found (Taken l r) front.told all (reply ∷ []) (reply ∷ []) front.replies (reply, [], [], refl, refl, (refl, refl));
        }
    go (Fault f r) here done = record {
      found = front.found ++ Fault f r ∷ [];
      finds = subst (λ (x : List ℕ). Finds input (front.found ++ Fault f r ∷ []) x) done.2 (finds_more input front.found rest (Fault f r) front.finds here);
      told = front.told;
      history = subst (λ (ms : List Mail). Answers m old ms front.told new) (sym (letters_more front.found (Fault f r) ∙ append-nil (letters_in front.found)))
          (subst (λ (s : State). Answers m old (letters_in front.found) front.told s) (sym done.1) front.history);
      replies = subst (λ (ts : List Reply). AreReplies (front.found ++ Fault f r ∷ []) ts (all ++ reply ∷ [])) (append-nil front.told)
          (replies_more front.found (Fault f r) front.told all [] (reply ∷ []) front.replies ([], ap (λ (x : Reply). x ∷ []) done.0, (refl, refl)));
    }
    go End here done = absurd done

texts_more : (replies : List Reply) (reply : Reply) → flat_map reply_text replies ++ reply_text reply ≡ flat_map reply_text (replies ++ reply ∷ [])
texts_more replies reply = sym (flat_map-append reply_text replies (reply ∷ []) ∙ ap (λ t. flat_map reply_text replies ++ t) (append-nil (reply_text reply)))

-- one reply more
pub written_more : (a b c : Option (List ℕ)) (replies : List Reply) (reply : Reply) → Appends a b (flat_map reply_text replies) → Appends b c (reply_text reply)
    → Appends a c (flat_map reply_text (replies ++ reply ∷ []))
written_more a b c replies reply first second = subst (λ (t : List ℕ). Appends a c t) (texts_more replies reply) (Appends-trans a b c _ _ first second)

-- a write that failed wrote a beginning of the last reply
pub stops_in_write : (m : Chart) → MovementsAreDecided m → (input : List ℕ) (old : State) (replies : List Reply) (mid : State) (rest : List ℕ) (reply : Reply) (new : State) (after : List ℕ)
    (a b c : Option (List ℕ)) (size : ℕ) → AnswersFront m input old mid replies rest → IsTurn m rest mid reply new after
    → Appends a b (flat_map reply_text replies) → Appends b c (take size (reply_text reply)) → Stops m Write input old new a c
stops_in_write m decided input old replies mid rest reply new after a b c size front turn first second = record {
  replies = replies ++ reply ∷ [];
  rest = after;
  front = front_more m decided input old replies mid rest reply new after front turn;
  written = (replies, reply, size, refl, Appends-trans a b c _ _ first second);
}

-- a run that stopped between two letters, of which all replies were written, over a keeper that was open
pub stopped_before : {K : Type 0} (m : Chart) (b : Book K) (fault : RunFault) (input : List ℕ) (first new : K) (mid : State) (replies : List Reply) (rest : List ℕ) (a c : Option (List ℕ))
    → IsTakingFault fault → AnswersFront m input (b.content m first) mid replies rest → Appends a c (flat_map reply_text replies)
    → Ends m b first new mid (TakesNext m rest mid) → StopsAt m b fault input first new a c
stopped_before m b fault input first new mid replies rest a c kind front written ends =
    record { state = mid; stops = record { replies = replies; rest = rest; front = front; written = go fault kind }; ends = ends }
  where
    go : (f : RunFault) → IsTakingFault f → IsWritten f a c replies
    go Memory k = written
    go (Keep g) k = written
    go Write k = absurd k
    go Read k = absurd k
    go TooLong k = absurd k
