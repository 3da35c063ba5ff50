mod kept_lemmas
