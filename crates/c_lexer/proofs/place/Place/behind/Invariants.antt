use Rattle.std.proofs.Common.{◌≡◌, ◌+◌, ◌≤◌, drop}
use Rattle.c_lexer.specs.Places.{behind as place_behind}
use Rattle.c_lexer.proofs.place.Place.behind.Given as goal

abbrev pub invariant-loop-byte : goal.invariant-loop-byte
invariant-loop-byte l = record {
  at : l.place.at ≡ l.fn.self.at + l.byte-index;
  line : l.place.line ≤ l.fn.self.line + l.byte-index;
  column : l.place.column ≤ l.fn.self.column + l.byte-index;
  place : place_behind l.bytes l.fn.self ≡ place_behind (drop l.byte-index l.bytes) l.place;
}
