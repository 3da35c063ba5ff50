-- The text of settled trees, as it is made script by script.
use Rattle.std.proofs.Common.{◌≡◌, ◌<◌, ◌+◌, ◌++◌, ℕ, List, [], ◌∷◌, length, map, take, get_or, sym, ◌∙◌}
use Rattle.std.proofs.Common.{ap, arith}
use Rattle.std.proofs.lemmas.List.{append_assoc, append-nil, take_more, take_all, length-take-le}
use Rattle.std.proofs.lemmas.List.FromFn.{length-map-range_with_len, map-range_with_len_more}
use Rattle.std.specs.List.{range_with_len}
use Rattle.model_line.specs.{declared.line.Line.Line, declared.script.Script.Script}
use Rattle.cert_claims.specs.{text.Grammar.end_text, text.Text.fed}
use Rattle.cert_settle.specs.Grammar.{SettleResult, head_text}
use Rattle.cert_settle.specs.Text.{part_text, parts_text, settle_text}

module _ (line : Line) (scripts : List Script) (of : ℕ → List SettleResult) where
  -- the head and the parts of the first scripts
  abbrev pub begun : ℕ → List ℕ
  begun n =
      fed head_text ++ parts_text line (take n scripts) (map of (range_with_len 0 n))

  pub begun_none : (text : List ℕ) → text ≡ fed head_text → text ≡ begun 0
  begun_none text is = is ∙ sym (append-nil (fed head_text))

  -- one script more
  pub begun_more : ((scripts : List Script) (parts : List (List SettleResult)) (script : Script)
      (results : List SettleResult) → length parts ≡ length scripts
      → parts_text line (scripts ++ script ∷ []) (parts ++ results ∷ [])
      ≡ parts_text line scripts parts ++ part_text line script results)
      → (s : ℕ) (script : Script) (old new : List ℕ) → s < length scripts
      → get_or scripts s script ≡ script → old ≡ begun s
      → new ≡ old ++ part_text line script (of s) → new ≡ begun (s + 1)
  begun_more grows s script old new lt here so_far added =
      let head : List ℕ = fed head_text in
      let parts : List (List SettleResult) = map of (range_with_len 0 s) in
      let own : List ℕ = part_text line script (of s) in
      let long : length parts ≡ length (take s scripts) =
      length-map-range_with_len of 0 s ∙ sym (length-take-le s scripts (omega arith)) in
      let more : take (s + 1) scripts ≡ take s scripts ++ script ∷ [] =
      take_more scripts s script lt
      ∙ ap (λ (x : Script). take s scripts ++ x ∷ []) here in
      let parts_more : map of (range_with_len 0 (s + 1)) ≡ parts ++ of s ∷ [] =
      map-range_with_len_more of 0 s s (omega arith) in
      added ∙ ap (λ (z : List ℕ). z ++ own) so_far
      ∙ append_assoc head (parts_text line (take s scripts) parts) own
      ∙ ap (λ (z : List ℕ). head ++ z)
      (sym (grows (take s scripts) parts script (of s) long)
      ∙ sym (ap (λ (xs : List Script). parts_text line xs (parts ++ of s ∷ [])) more)
      ∙ sym (ap (λ (ps : List (List SettleResult)). parts_text line (take (s + 1) scripts) ps)
      parts_more))

  -- the end makes it the whole text
  pub ended : (s : ℕ) (text whole : List ℕ) → s ≡ length scripts → text ≡ begun s
      → whole ≡ text ++ fed end_text
      → whole ≡ settle_text line scripts (map of (range_with_len 0 (length scripts)))
  ended s text whole all so_far is =
      let head : List ℕ = fed head_text in
      let last : List ℕ = fed end_text in
      let parts : List (List SettleResult) = map of (range_with_len 0 (length scripts)) in
      is ∙ ap (λ (z : List ℕ). z ++ last) (so_far ∙ ap begun all)
      ∙ append_assoc head (parts_text line (take (length scripts) scripts) parts) last
      ∙ ap (λ (xs : List Script). head ++ (parts_text line xs parts ++ last))
      (take_all (length scripts) scripts (omega arith))
