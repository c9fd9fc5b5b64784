-- What the program is.
use Rattle.std.specs.Prelude.{ℕ, List, Option, codes, take}
use Rattle.std.specs.Io.KnownBytes.{Appends}
use Rattle.dip_judge_runs.specs.declared.run.RunFault.TheVariants.{Write}
use Rattle.dip_judge_system.specs.declared.failures.Failure.{Failure}
use Rattle.dip_judge_system.specs.declared.failures.Failure.TheVariants.{Run}

-- its version, its standard map by the SHA-256 of its text, and the kit's logic by which it was proved
abbrev pub version_text : List ℕ
version_text = codes "dip_judge 0.1.0\nstandard map, SHA-256 05d93c6e007d30d189866a8852e703fec2244fcf096b910bd61bfd31cf641efc\nproved by Rattle, logic dac8208d650f15bf\n"

-- the writer failed, and a beginning of that was written
abbrev pub FailsVersion : Option (List ℕ) → Option (List ℕ) → Failure → Type 0
FailsVersion before after (Run Write) = (size : ℕ) × Appends before after (take size version_text)
FailsVersion before after failure = ⊥
