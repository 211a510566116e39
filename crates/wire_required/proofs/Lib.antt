mod MissingRows
