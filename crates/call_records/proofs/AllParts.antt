-- The parts of the records of all recorders, one recorder on.
use Rattle.std.proofs.Common.{◌≡◌, ◌⊎◌, ◌∷◌, ◌<◌, ◌≤◌, ◌+◌, ◌++◌, ◌∙◌, ℕ, List, [], Result, Ok, Err, ap, drop, get_or, refl}
use Rattle.std.proofs.Common.{inl, inr, length, map}
use Rattle.std.proofs.lemmas.List.{drop_all, drop_more}
use Rattle.call_records.specs.Parts.{RecordParts, RecorderFiles, SectionRefusal, parts_from, parts_in}
use Rattle.call_records.specs.Read.{IsMemory, Stops, files_values}
use Rattle.call_records.specs.SectionFaults.{refused_section}
use Rattle.call_records.specs.declared.fetch.RecorderFiles as code
use Rattle.call_records.specs.declared.halt.Halt.{Halt}

abbrev Said : Type 0
Said = Result (List RecordParts) SectionRefusal

one_on : (f : RecorderFiles) (fs : List RecorderFiles) (done : List RecordParts) (own : RecordParts)
    → parts_in f ≡ Ok own → parts_from (f ∷ fs) done ≡ parts_from fs (done ++ own ∷ [])
one_on f fs done own e = rw e refl

fails_at : (f : RecorderFiles) (fs : List RecorderFiles) (done : List RecordParts)
    (why : SectionRefusal) → parts_in f ≡ Err why → parts_from (f ∷ fs) done ≡ Err why
fails_at f fs done why e = rw e refl

module _ (fs : List code.RecorderFiles) (i : ℕ) (d : code.RecorderFiles) (done : List RecordParts)
    (inside : i < length fs) where
  here : parts_from (map files_values (drop i fs)) done
      ≡ parts_from (files_values (get_or fs i d) ∷ map files_values (drop (i + 1) fs)) done
  here = ap (λ (l : List code.RecorderFiles). parts_from (map files_values l) done)
      (drop_more fs i d inside)

  -- a record more
  pub parts_next : (own : RecordParts) → parts_in (files_values (get_or fs i d)) ≡ Ok own
      → parts_from (map files_values (drop i fs)) done
      ≡ parts_from (map files_values (drop (i + 1) fs)) (done ++ own ∷ [])
  parts_next own e =
      here ∙ one_on (files_values (get_or fs i d)) (map files_values (drop (i + 1) fs)) done own e

  -- one that is refused
  pub parts_stop : (said : Said) (why : Halt) → said ≡ parts_from (map files_values (drop i fs)) done
      → Stops refused_section (parts_in (files_values (get_or fs i d))) why ⊎ IsMemory why
      → Stops refused_section said why ⊎ IsMemory why
  parts_stop said why so_far stops = elim stops [
    | inl by ↦ inl (record {
      fault = by.fault;
      fails = so_far ∙ here ∙ fails_at (files_values (get_or fs i d))
          (map files_values (drop (i + 1) fs)) done by.fault by.fails;
      tells = by.tells;
    })
    | inr is ↦ inr is
  ]

-- all of them
pub parts_end : (fs : List code.RecorderFiles) (i : ℕ) (done : List RecordParts) → length fs ≤ i
    → parts_from (map files_values (drop i fs)) done ≡ Ok done
parts_end fs i done end =
    ap (λ (l : List code.RecorderFiles). parts_from (map files_values l) done) (drop_all i fs end)
