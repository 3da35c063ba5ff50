-- The canonical table of a line is read as the line.
use Rattle.std.proofs.Common.{◌≡◌, ◌<◌, ◌≤◌, ◌&&◌, ℕ, true, List, [], ◌∷◌, length, Some, Ok, refl}
use Rattle.std.proofs.Common.{ap, ◌∙◌, arith, codes, nat_le}
use Rattle.std.proofs.lemmas.Bool.{le-leb}
use Rattle.toml.specs.View.{items_of}
use Rattle.model_line.specs.declared.line.Scheme.TheVariants.{Pott, Putt, Dcb, Dcub, Dtt}
use Rattle.model_line.specs.{declared.line.Line.Line, declared.line.Scheme.Scheme}
use Rattle.model_logic.specs.Laws.{LineLaws}
use Rattle.file_document.specs.Keys.{document_of, all_known, value_at, number_at, text_at, array_at}
use Rattle.file_document.specs.Keys.{counted}
use Rattle.file_document.specs.Paths.{under}
use Rattle.file_line.specs.Lines.{LineValues, line_values, scheme_named, scheme_of, zone1_trip_of}
use Rattle.file_line.specs.Lines.{head_of, terminal_items, channel_items}
use Rattle.file_line.specs.LineFiles.{top_keys, tables_in, line_at, line_in, line_of}
use Rattle.toml.specs.Data.{Members}
use Rattle.file_line.specs.Canonical.{terminal_members, tables_from, terminals_data}
use Rattle.file_line.specs.Canonical.{channels_data, scheme_text, canonical_in}
use Rattle.file_line.specs.Times.{units_per_tick}
use Rattle.file_line.specs.{TerminalTables.terminals_at, ChannelTables.channels_at}
use Rattle.file_line.proofs.Binds.{ok_of}
use Rattle.file_line.proofs.TerminalBack.{read_terminals, terminals_back}
use Rattle.file_line.proofs.ChannelBack.{read_channels, channels_back, between_back, whole_back}
use Rattle.file_line.proofs.ChannelBack.{joined_back}

scheme_back : (s : Scheme) → scheme_named (scheme_text s) ≡ Some s
scheme_back Pott = refl
scheme_back Putt = refl
scheme_back Dcb = refl
scheme_back Dcub = refl
scheme_back Dtt = refl

few_back :
    {X : Type 0} (members : ℕ → X → Members) (xs : List X) → 2 ≤ length xs → length xs ≤ 3
    → counted (under [] (codes "terminal")) 2 3 (items_of (tables_from members 0 xs))
    ≡ Ok (items_of (tables_from members 0 xs))
few_back members [] some few = absurd (omega arith)
few_back members (a ∷ []) some few = absurd (omega arith)
few_back members (a ∷ b ∷ []) some few = refl
few_back members (a ∷ b ∷ c ∷ []) some few = refl
few_back members (a ∷ b ∷ c ∷ d ∷ xs) some few = absurd (omega arith)

module _ (laws : LineLaws) (version unit : ℕ) (line : Line) where
  version_back :
      nat_le 1 version && nat_le version 2 ≡ true
      → number_at [] (codes "version") 1 2 (canonical_in version unit line) ≡ Ok version
  unfolding value_at number_at canonical_in
  version_back range = rw range

  keys_back : all_known [] top_keys (canonical_in version unit line) ≡ Ok tt
  unfolding all_known canonical_in
  keys_back = refl

  head_back : head_of (canonical_in version unit line) ≡ Ok (read_terminals line 0)
  unfolding head_of value_at number_at scheme_of text_at zone1_trip_of canonical_in
  head_back =
      rw (
        le-leb 1 line.tick_us line.tick_in_range.0,
        le-leb line.tick_us 1000000 line.tick_in_range.1,
        le-leb 1 line.horizon line.horizon_in_range.0,
        le-leb line.horizon 4000 line.horizon_in_range.1,
        scheme_back line.scheme,
      )

  terminal_items_back :
      terminal_items (canonical_in version unit line)
      ≡ Ok (items_of (terminals_data unit line))
  unfolding terminal_items value_at array_at canonical_in
  terminal_items_back =
      few_back (terminal_members unit line) line.terminals.items line.two_or_three.0 line.two_or_three.1

  channel_items_back :
      channel_items (canonical_in version unit line)
      ≡ Ok (items_of (channels_data unit line))
  unfolding value_at array_at canonical_in
  channel_items_back = refl

  -- the table is read as the line
  pub line_back :
      nat_le 1 version && nat_le version 2 ≡ true → units_per_tick version line.tick_us ≡ unit
      → 0 < unit → line_in (canonical_in version unit line) ≡ Ok (line_values line)
  unfolding line_at tables_in
  line_back range units some =
      let terminals : terminals_at [] unit
      (items_of (terminals_data unit line)) (read_terminals line 0)
      ≡ Ok (read_channels line 0) =
      terminals_back laws unit line some
      ∙ ap (λ (v : LineValues). ok_of v) (between_back line) in
      let channels : channels_at [] unit
      (items_of (channels_data unit line)) (read_channels line 0)
      ≡ Ok (line_values line) =
      channels_back laws unit line some
      ∙ ap (λ (v : LineValues). ok_of v) (whole_back laws line) in
      rw (
        version_back range,
        keys_back,
        head_back,
        terminal_items_back,
        channel_items_back,
        units,
        terminals,
        channels,
        joined_back line,
      )

-- so are bytes that stand for it
pub file_back : LineLaws →
    (version unit : ℕ) (line : Line) (bytes : List ℕ)
    → document_of bytes ≡ Some (canonical_in version unit line)
    → nat_le 1 version && nat_le version 2 ≡ true → units_per_tick version line.tick_us ≡ unit
    → 0 < unit → line_of bytes ≡ Ok (line_values line)
unfolding line_of
file_back laws version unit line bytes document range units some =
    rw document (line_back laws version unit line range units some)
