-- Calls that only look, one after the other.
use Rattle.std.proofs.Common.{◌∙◌, inl, arith, refl}
use Rattle.disk_model.specs.declared.disk.Disk as disk
use Rattle.disk_model.specs.View.{OnlyLooks}

-- no call yet
pub looks_same : {D : Type 0} {d : disk.Ghosts D} {old : D} → OnlyLooks d old old
looks_same =
    record {
      same_seen = refl;
      no_more = λ c now. now;
      no_less = λ c now. now;
      past = λ t c left. left;
      time = record { later = omega arith; nothing_else = λ t c le left. inl left; keeps = λ t c le left. left };
      later = omega arith;
    }

-- a call more
pub looks_then : {D : Type 0} {d : disk.Ghosts D} {old mid new : D} → OnlyLooks d old mid → OnlyLooks d mid new → OnlyLooks d old new
looks_then a b =
    record {
      same_seen = b.same_seen ∙ a.same_seen;
      no_more = λ c now. a.no_more c (b.no_more c now);
      no_less = λ c was. b.no_less c (a.no_less c was);
      past = λ t c left. a.past t c (b.past t c left);
      time = record {
        later = omega (arith, a.time.later, b.time.later);
        nothing_else = λ t c le left. inl (a.past t c (b.past t c left));
        keeps = λ t c le left. b.time.keeps t c (omega (arith, le, a.time.later)) (a.time.keeps t c le left);
      };
      later = omega (arith, a.later, b.later);
    }
