use Rattle.std.proofs.Common.{◌∙◌, ap, sym, refl, get_or, List, ℕ}
use Rattle.closer.proofs.changed_parts.with_part.Goals as goal

pub returns : goal.returns
returns c =
    let well = c.requires.well in
    let row = c.with_row.ensures in
    record {
      generation = refl;
      round_is = refl;
      same = record { vertices = refl; grammar_len = refl; edges_len = refl; first_len = refl; labels = refl };
      refiles = c.with_file.ensures;
      map_size = row.size;
      map_rows = row.rows;
      counts = λ b lb. row.here b lb ∙ ap (λ (l : List ℕ). get_or l b 0) c.deref.ensures.value;
      other_counts = row.others;
      marks_size = c.raise.ensures.size;
      joined = c.raise.ensures.joined;
      births = c.len-size.ensures.newest ∙ c.raise.ensures.size ∙ well.marks.size ∙ sym well.marks.births;
      newest_is = c.raise.ensures.newest;
    }
