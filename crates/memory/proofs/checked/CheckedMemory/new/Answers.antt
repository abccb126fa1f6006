use Rattle.std.proofs.Common.{◌≡◌, sym, subst, rules}
use Rattle.parts.specs.Meaning.{Meaning, Keeps}
use Rattle.parts.specs.Tallying.{Tallying, Laws}
use Rattle.memory_laws.specs.Checked.{Mem, plain, made, StartsLoyal}
use Rattle.memory_laws.proofs.Making.{made_is}
use Rattle.memory.proofs.checked.CheckedMemory.new.Goals as goal

-- a memory that is the one made over a loyal store starts loyal
starts : (m : Meaning) (k : Keeps m) {T V : Type 0} (l : T → Tallying V) (laws : (t : T) → Laws (l t)) (s : m.State) (t : T) {x : Mem (plain m) l} → x ≡ made m l s t → StartsLoyal m l s x
starts m k l laws s t e = subst (λ (x : Mem (plain m) l). StartsLoyal m l s x) (sym e) (λ h w. (made_is m k l laws s t h w).holds)

pub returns-then-not-is_checkable-clause-loyal : goal.returns-then-not-is_checkable-clause-loyal
returns-then-not-is_checkable-clause-loyal g c = starts g.S.Store.meaning g.S.Store.keeps g.T.Tally.tallying g.T.Tally.laws _ c.args.tally (search rules)

pub returns-clause-loyal : goal.returns-clause-loyal
returns-clause-loyal g c = starts g.S.Store.meaning g.S.Store.keeps g.T.Tally.tallying g.T.Tally.laws _ c.args.tally (search rules)
