use Rattle.dip_desk_memory.proofs.memory.MemoryKeeper.new.Goals as goal

pub returns-clause-is_open : goal.returns-clause-is_open
returns-clause-is_open c m = record { sound = tt; shows = tt; alone = λ s is. is; again = tt }
